-- Heads and items as they stand in files, computed.
use Rattle.std.proofs.Common.{◌≡◌, [], ◌∷◌, Some, None, refl, lit<, lit≤}
use Rattle.ebml.specs.Head.{IsHead, size_of}
use Rattle.ebml.specs.Head.{HasHead}

-- sizes of 2, and the unknown one, in one octet, two and eight (RFC 8794, section 6.2)
two_in_one : size_of (0x82 ∷ []) ≡ Some 2
two_in_one = refl

two_in_two : size_of (0x40 ∷ 0x02 ∷ []) ≡ Some 2
two_in_two = refl

two_in_eight : size_of (0x01 ∷ 0 ∷ 0 ∷ 0 ∷ 0 ∷ 0 ∷ 0 ∷ 0x02 ∷ []) ≡ Some 2
two_in_eight = refl

unknown_in_one : size_of (0xFF ∷ []) ≡ None
unknown_in_one = refl

unknown_in_eight : size_of (0x01 ∷ 0xFF ∷ 0xFF ∷ 0xFF ∷ 0xFF ∷ 0xFF ∷ 0xFF ∷ 0xFF ∷ []) ≡ None
unknown_in_eight = refl

-- 127 has to be in two octets, since one of all ones is the unknown size
in_two : size_of (0x40 ∷ 0x7F ∷ []) ≡ Some 127
in_two = refl

ebml_head : IsHead 0x1A45DFA3 (Some 35) (0x1A ∷ 0x45 ∷ 0xDF ∷ 0xA3 ∷ 0xA3 ∷ [])
ebml_head = record {
  id_bytes = 0x1A ∷ 0x45 ∷ 0xDF ∷ 0xA3 ∷ [];
  size_bytes = 0xA3 ∷ [];
  joined = refl;
  id_is_vint = record { marked = lit≤ tt; first = lit< tt };
  id_short = lit≤ tt;
  id_is = refl;
  size_is_vint = record { marked = lit≤ tt; first = lit< tt };
  size_short = lit≤ tt;
  size_is = refl;
}

void_there : HasHead (0xEC ∷ 0x40 ∷ 0x01 ∷ 0x00 ∷ []) record { id = 0xEC; size = Some 1; length = 3 }
void_there = record {
  room = lit≤ tt;
  is = record {
    id_bytes = 0xEC ∷ [];
    size_bytes = 0x40 ∷ 0x01 ∷ [];
    joined = refl;
    id_is_vint = record { marked = lit≤ tt; first = lit< tt };
    id_short = lit≤ tt;
    id_is = refl;
    size_is_vint = record { marked = lit≤ tt; first = lit< tt };
    size_short = lit≤ tt;
    size_is = refl;
  };
}
