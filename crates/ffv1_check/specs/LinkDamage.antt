-- Two files that differ only within one link of a frame (RFC 9043, section 4.9): from the files, by a Cluster, a block and its frame, to the link's bits.
use Rattle.std.specs.Prelude.{ℕ, ◌≡◌, ◌⊎◌, IsTrue, List, ◌∷◌, ◌++◌, take, drop, slice_range, Contains}
use Rattle.std.specs.List.{concat}
use Rattle.ffv1_bits.specs.Parity.{AreBytes, DifferWithin32}
use Rattle.ffv1_slice.specs.Chain.{size_before, IsLinkOf}
use Rattle.ebml.specs.Children.{IsElement, AreChildren}
use Rattle.ebml.specs.Items.{ItemValue, bytes_of_items, AreItems}
use Rattle.ebml.specs.Masters.{cluster_id, cluster_ids, block_group_ids}
use Rattle.ebml.specs.declared.head.Head.{Head}
use Rattle.ebml.specs.declared.items.Kind.TheVariants.{Element}
use Rattle.matroska.specs.Blocks.{BlockValue, IsBlock}
use Rattle.matroska.specs.Tracks.{HasParities}
use Rattle.matroska.specs.declared.track.Track.{Track}
use Rattle.matroska_parts.specs.ItemParts.{first_tracks, AreTracksBy}
use Rattle.ffv1_check.specs.declared.report.Report.{Report}
use Rattle.ffv1_check.specs.Checks.{IsCheckOf}

-- Two frames differ only within one link, of which the size that its footer gives is not changed, and there within 32 consecutive bits.
pub record DifferInFrame (frame damaged : List ℕ) : Type 0 where
  pub start : ℕ
  pub end : ℕ
  pub link : IsLinkOf frame start end
  pub other : List ℕ
  pub damaged_is : damaged ≡ take start frame ++ (other ++ drop end frame)
  pub size : size_before damaged end ≡ size_before frame end
  pub place : ℕ
  pub within : DifferWithin32 (slice_range frame start end) other place

-- Two blocks of the track of this number differ only in their payloads, and these so.
pub record DifferInBlock (number : ℕ) (content damaged : List ℕ) : Type 0 where
  pub block : BlockValue
  pub is : IsBlock content block
  pub of_track : block.track ≡ number
  pub other : List ℕ
  pub damaged_is : damaged ≡ is.number ++ is.high ∷ is.low ∷ is.flags ∷ other
  pub differ : DifferInFrame block.payload other

-- Two elements with this ID differ only in what follows their heads, and there so.
pub record DifferInContent (Differ : List ℕ → List ℕ → Type 0) (id : ℕ) (element damaged : List ℕ) : Type 0 where
  pub head : Head
  pub is : IsElement head element
  pub id_is : head.id ≡ id
  pub other : List ℕ
  pub damaged_is : damaged ≡ take head.length element ++ other
  pub differ : Differ (drop head.length element) other

-- The contents of two masters with such children differ only in one child, and there so.
pub record DifferInChild (Differ : List ℕ → List ℕ → Type 0) (ids content damaged : List ℕ) : Type 0 where
  pub before : List (List ℕ)
  pub child : List ℕ
  pub after : List (List ℕ)
  pub rest : List ℕ
  pub are : AreChildren ids content (before ++ child ∷ after) rest
  pub other : List ℕ
  pub damaged_is : damaged ≡ concat before ++ (other ++ (concat after ++ rest))
  pub differ : Differ child other

-- in the Block of a BlockGroup
abbrev pub DifferInGroup : ℕ → List ℕ → List ℕ → Type 0
DifferInGroup number content damaged = DifferInChild (DifferInContent (DifferInBlock number) 0xA1) block_group_ids content damaged

-- two children of a Cluster: SimpleBlocks, or BlockGroups
abbrev pub DifferInClusterChild : ℕ → List ℕ → List ℕ → Type 0
DifferInClusterChild number child damaged =
    DifferInContent (DifferInBlock number) 0xA3 child damaged ⊎ DifferInContent (DifferInGroup number) 0xA0 child damaged

-- Two files differ only in one Cluster, and there in a link of a block of a track that is judged by parities.
pub record DifferInLink (file damaged : List ℕ) : Type 0 where
  pub items : List ItemValue
  pub are_items : AreItems file items
  pub tracks : List Track
  pub tracks_are : AreTracksBy (first_tracks 0 items) tracks
  pub track : Track
  pub is_track : Contains tracks track
  pub judged : HasParities track
  pub before : List ItemValue
  pub cluster : List ℕ
  pub after : List ItemValue
  pub other : List ℕ
  pub differ : DifferInContent (DifferInChild (DifferInClusterChild track.number) cluster_ids) cluster_id cluster other
  pub at : items ≡ before ++ record { kind = Element differ.head; bytes = cluster } ∷ after
  pub damaged_is : damaged ≡ bytes_of_items before ++ (other ++ bytes_of_items after)

-- ---- laws

-- Of two files that differ so, one at most is whole, unless they are the same.
abbrev pub SmallDamageInLinkIsSeen : Type 0
SmallDamageInLinkIsSeen =
    (file damaged : List ℕ) (a b : Report) → AreBytes file → AreBytes damaged → DifferInLink file damaged → IsCheckOf file a → IsCheckOf damaged b
    → IsTrue a.is_whole → IsTrue b.is_whole → file ≡ damaged
