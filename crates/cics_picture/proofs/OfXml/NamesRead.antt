-- Each name is found again, and none of its bytes ends it.
use Rattle.std.proofs.Common.{◌≡◌, ℕ, true, not, ◌==◌, ◌∷◌, ◌++◌, [], refl, Some}
use Rattle.std.specs.List.{list_all}
use Rattle.cics_picture.specs.Xml.Names.{tag_name, key_name, keys, called}
use Rattle.cics_picture.specs.Xml.Reading.{Between, Name, End, is_gathered, named, behind}
use Rattle.cics_picture.specs.declared.xml.names.Tag.{Tag}
use Rattle.cics_picture.specs.declared.xml.names.Tag.TheVariants as tag
use Rattle.cics_picture.specs.declared.xml.names.Key.{Key}
use Rattle.cics_picture.specs.declared.xml.names.Key.TheVariants as key
use lib.Chars.{codes}

pub tag-within : (t : Tag) → list_all (is_gathered Name) (tag_name t) ≡ true
tag-within tag.Svg = refl
tag-within tag.Title = refl
tag-within tag.Style = refl
tag-within tag.G = refl
tag-within tag.Rect = refl
tag-within tag.Line = refl
tag-within tag.Path = refl
tag-within tag.Text = refl
tag-within tag.B = refl
tag-within tag.Code = refl
tag-within tag.Del = refl
tag-within tag.Div = refl
tag-within tag.H1 = refl
tag-within tag.I = refl
tag-within tag.Ins = refl
tag-within tag.Li = refl
tag-within tag.Ol = refl
tag-within tag.P = refl
tag-within tag.Pre = refl
tag-within tag.Samp = refl

-- a name in a start tag
pub tag-start : (t : Tag) (c : ℕ) → named (tag_name t) c ≡ behind t [] c
tag-start tag.Svg c = refl
tag-start tag.Title c = refl
tag-start tag.Style c = refl
tag-start tag.G c = refl
tag-start tag.Rect c = refl
tag-start tag.Line c = refl
tag-start tag.Path c = refl
tag-start tag.Text c = refl
tag-start tag.B c = refl
tag-start tag.Code c = refl
tag-start tag.Del c = refl
tag-start tag.Div c = refl
tag-start tag.H1 c = refl
tag-start tag.I c = refl
tag-start tag.Ins c = refl
tag-start tag.Li c = refl
tag-start tag.Ol c = refl
tag-start tag.P c = refl
tag-start tag.Pre c = refl
tag-start tag.Samp c = refl

-- a name in an end tag
pub tag-end : (t : Tag) → named (47 ∷ tag_name t) 62 ≡ Some (End t ∷ [], Between)
tag-end tag.Svg = refl
tag-end tag.Title = refl
tag-end tag.Style = refl
tag-end tag.G = refl
tag-end tag.Rect = refl
tag-end tag.Line = refl
tag-end tag.Path = refl
tag-end tag.Text = refl
tag-end tag.B = refl
tag-end tag.Code = refl
tag-end tag.Del = refl
tag-end tag.Div = refl
tag-end tag.H1 = refl
tag-end tag.I = refl
tag-end tag.Ins = refl
tag-end tag.Li = refl
tag-end tag.Ol = refl
tag-end tag.P = refl
tag-end tag.Pre = refl
tag-end tag.Samp = refl

pub key-within : (k : Key) → list_all (λ c. not (c == 34)) (key_name k ++ codes "=") ≡ true
key-within key.Class = refl
key-within key.D = refl
key-within key.Height = refl
key-within key.Id = refl
key-within key.Transform = refl
key-within key.Width = refl
key-within key.X = refl
key-within key.X1 = refl
key-within key.X2 = refl
key-within key.Xmlns = refl
key-within key.Y = refl
key-within key.Y1 = refl
key-within key.Y2 = refl

pub key-found : (k : Key) → called (λ x. key_name x ++ codes "=") (key_name k ++ codes "=") keys ≡ Some k
key-found key.Class = refl
key-found key.D = refl
key-found key.Height = refl
key-found key.Id = refl
key-found key.Transform = refl
key-found key.Width = refl
key-found key.X = refl
key-found key.X1 = refl
key-found key.X2 = refl
key-found key.Xmlns = refl
key-found key.Y = refl
key-found key.Y1 = refl
key-found key.Y2 = refl
