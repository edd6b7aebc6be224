-- Worked examples: what is told of faulty lines, to the byte.
use Rattle.std.specs.Prelude.{◌≡◌, ℕ, List, Some, None, codes, ◌∷◌, ◌++◌, [], map, replicate, refl}
use Rattle.std.proofs.Common.{ap}
use Rattle.std.specs.Fmt.{digits}
use Rattle.std.specs.Borrow.{Bor}
use Rattle.cics_script.specs.Advice.Places.{named, place_text}
use Rattle.cics_script.specs.Advice.Advice.{advice, marked, too_long}
use Rattle.cics_script.specs.declared.advice.origin.Origin.{Origin}

-- the third line of standard input
abbrev typed : Origin
typed = record { file = None; line = 3 }

-- the third line of a file, whose name has a tab
in_file : (name : Bor (List ℕ)) → name.now ≡ codes "my" ++ 9 ∷ codes "race.cics" → place_text (record { file = Some name; line = 3 }) (Some 33) ≡ codes "my?race.cics:3:33: "
unfolding digits
in_file name is = ap (λ bytes. (map named bytes ++ codes ":") ++ codes "3:33: ") is

-- a missing option stands one column past the last token
missing : advice typed 31 (codes "DEFINE FILE needs RECOVERABLE or UNRECOVERABLE") (codes "DEFINE FILE('A') KEYLENGTH(6) ")
    ≡ codes "cicsrun: line 3, column 31: DEFINE FILE needs RECOVERABLE or UNRECOVERABLE\nDEFINE FILE('A') KEYLENGTH(6) \n                              ^\n"
unfolding digits
missing = refl

-- the first column
first : marked (codes "HELLO") 1 ≡ codes "HELLO\n^\n"
first = refl

-- a tab is a blank, and what can't be printed a question mark
tab : marked (codes "T1" ++ 9 ∷ codes "FOO" ++ 0xE4 ∷ []) 4 ≡ codes "T1 FOO?\n   ^\n"
tab = refl

-- a long line is cut to 100 columns: here to columns 61 to 160, with column 131 under the caret, the 71st
cut : marked (replicate 130 65 ++ replicate 70 66) 131 ≡ replicate 69 65 ++ replicate 31 66 ++ 10 ∷ replicate 69 32 ++ codes "^\n"
cut = refl

-- the end of a long line stays in sight
end : marked (replicate 199 65 ++ 66 ∷ []) 200 ≡ replicate 99 65 ++ 66 ∷ 10 ∷ replicate 99 32 ++ codes "^\n"
end = refl

-- one column past it too
past_end : marked (replicate 200 65) 201 ≡ replicate 99 65 ++ 10 ∷ replicate 99 32 ++ codes "^\n"
past_end = refl

-- no column
long : too_long typed ≡ codes "cicsrun: line 3: a line has at most 70,000 bytes\n"
unfolding digits
long = refl
