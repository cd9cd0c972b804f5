-- Kinds of children, and where elements begin and end, computed.
use Rattle.std.proofs.Common.{◌≡◌, [], ◌∷◌, refl}
use Rattle.std.specs.Prelude.{Some, None}
use Rattle.ebml.specs.declared.items.Kind.TheVariants as kind
use Rattle.matroska_parts.specs.declared.top_elements.TopElement.TheVariants as tops
use Rattle.matroska_parts.specs.declared.parts.Part.TheVariants as part
use Rattle.matroska_parts.specs.declared.masters.ChildKind.TheVariants as child
use Rattle.matroska_parts.specs.MasterParts.{child_kind, unknown_parts}
use Rattle.matroska_parts.specs.Openings.{opening_of}
use Rattle.matroska_parts.specs.ItemParts.{first_tracks}

block_of_group : child_kind 0xA1 ≡ child.Block
block_of_group = refl

previous_size : child_kind 0xAB ≡ child.Other
previous_size = refl

cluster_opening : opening_of 716 tops.Cluster record { id = 0x1F43B675; size = Some 1031; length = 6 } ≡ record { place = 716; element = tops.Cluster; end = Some 1753 }
cluster_opening = refl

endless_opening : opening_of 40 tops.Segment record { id = 0x18538067; size = None; length = 12 } ≡ record { place = 40; element = tops.Segment; end = None }
endless_opening = refl

nothing_unknown : unknown_parts 7 [] ≡ []
nothing_unknown = refl

three_unknown : unknown_parts 7 (1 ∷ 2 ∷ 3 ∷ []) ≡ part.Unknown record { place = 7; size = 3 } ∷ []
three_unknown = refl

-- an empty Tracks after an unknown byte; a second one does not count
two_tracks : first_tracks 0
    (record { kind = kind.Unknown; bytes = 0 ∷ [] } ∷ record { kind = kind.Element record { id = 0x1654AE6B; size = Some 0; length = 5 }; bytes = 0x16 ∷ 0x54 ∷ 0xAE ∷ 0x6B ∷ 0x80 ∷ [] }
    ∷ record { kind = kind.Element record { id = 0x1654AE6B; size = Some 1; length = 5 }; bytes = 0x16 ∷ 0x54 ∷ 0xAE ∷ 0x6B ∷ 0x81 ∷ 0xEC ∷ [] } ∷ [])
    ≡ Some record { place = 1; content = [] }
two_tracks = refl
