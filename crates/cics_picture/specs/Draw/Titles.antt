-- The title of a picture.
use Rattle.std.specs.Prelude.{ℕ, Bool, not, ◌||◌, ◌==◌, if◌then◌else◌, List, take, drop}
use Rattle.std.specs.List.{prefix_len}
use Rattle.std.specs.Str.{bytes_eq}
use lib.Chars.{codes}

-- a full stop, a colon, LF and CR end a title
abbrev pub is_in_title : ℕ → Bool
is_in_title c = not (c == 46 || (c == 58 || (c == 10 || c == 13)))

-- the first words of a comment
abbrev pub first_words : List ℕ → List ℕ
first_words bytes = take (prefix_len is_in_title bytes) bytes

-- a script that begins with a comment has its first words for a title
abbrev pub title_of : List ℕ → List ℕ
title_of script = if bytes_eq (take 2 script) (codes "* ") then first_words (drop 2 script) else codes "A run of a script"
