use Rattle.std.proofs.Common.{◌≡◌, ◌+◌, ◌++◌, ◌&&◌, length, map, take, drop}
use Rattle.std.specs.List.{list_all}
use Rattle.cics_script.specs.Texts.{plain, is_plain}
use Rattle.cics_script.proofs.spelling.texts.put_characters.Given as goal

abbrev pub invariant-loop-i : goal.invariant-loop-i
invariant-loop-i l =
    (length l.text ≡ length l.fn.text) × (take (l.start + l.i) l.text ≡ take l.start l.fn.text ++ map plain (take l.i l.codes))
    × ((l.all && list_all is_plain (drop l.i l.codes)) ≡ list_all is_plain l.codes)
