-- Names of plain characters are ASCII.
use Rattle.std.proofs.Common.{◌≡◌, ℕ, ◌≤◌, ◌<◌, true, List, [], ◌∷◌, length, leb, arith}
use Rattle.std.specs.Prelude.{nat_lt, nat_le}
use Rattle.std.specs.List.{list_all}
use Rattle.std.specs.Char.{is_ascii_graphic}
use Rattle.std.specs.Str.{IsAscii}
use Rattle.std.proofs.lemmas.Bool.{leb-true, and_parts}
use Rattle.std.proofs.lemmas.Str.Ascii.{IsAscii-nil, IsAscii-cons}
use Rattle.ffv1_check.specs.ReportLines.{is_plain_name}

graphic_below : (byte : ℕ) → is_ascii_graphic byte ≡ true → byte < 128
graphic_below byte is =
    let most : byte ≤ 126 = leb-true byte 126 (and_parts (leb 33 byte) (leb byte 126) is).1 in
    omega (arith, most)

all_below : (name : List ℕ) → list_all is_ascii_graphic name ≡ true → IsAscii name
all_below [] all = IsAscii-nil
all_below (b ∷ bs) all =
    let both = and_parts (is_ascii_graphic b) (list_all is_ascii_graphic bs) all in
    IsAscii-cons b bs (graphic_below b both.0) (all_below bs both.1)

pub plain_is_ascii : (name : List ℕ) → is_plain_name name ≡ true → IsAscii name
plain_is_ascii name is =
    all_below name (and_parts (nat_le (length name) 64) (list_all is_ascii_graphic name) (and_parts (nat_lt 0 (length name)) _ is).1).1
