-- What a holding means (own): a recording, a set of slices with their footers (RFC 9043, section 4.9) and their tiles, and for each
-- of them the SHA-256 digests of the whole copies that gave it.
use Rattle.std.specs.Prelude.{◌≡◌, ◌==◌, ◌≤◌, ℕ, true, List, length, map}
use Rattle.std.specs.List.{flat_map}
use Rattle.std.proofs.Common.{refl}
use Rattle.std.specs.Coded.{Coded, code_by, coded×}
use Rattle.sha2.specs.Sha256.{sha256}
use Rattle.ffv1_bits.specs.Limits.{slice_limit}
use Rattle.ffv1_range.specs.TileHeaders.{TileRules}
use Rattle.ffv1_slice.specs.Members.{HasSameMembers}
use Rattle.ffv1_slice.specs.Slices.{IsSliceOf, found_slices}
use Rattle.ffv1_holding.specs.SliceOrder.{Entry, Origin, with_each, bytes_cmp, entry_cmp, origin_cmp, coded_entry, coded_origin}
use Rattle.ffv1_holding.specs.Sets as set
use Rattle.ffv1_holding.specs.Rising.{IsRising}
use Rattle.ffv1_holding.specs.TileSets.{digests_in}
use Rattle.ffv1_holding.specs.Reels.{Reel, IsReel, IsOwnReel, coded_reel}

-- the slices that are held, and which copy gave which of them
pub record Contents : Type 0 where
  pub reel : Reel
  pub slices : set.SetOf entry_cmp
  pub origins : set.SetOf origin_cmp

-- no slices yet
abbrev pub no_slices : Reel → Contents
no_slices reel = record { reel = reel; slices = set.empty; origins = set.empty }

-- the same slices and origins, of another reel
abbrev pub with_reel : Contents → Reel → Contents
with_reel h reel = record { reel = reel; slices = h.slices; origins = h.origins }

-- One record, width, height and frames: these have one rules.
abbrev pub IsSameReel : Contents → Contents → Type 0
IsSameReel a b = a.reel ≡ b.reel

-- with these slices and origins as well
abbrev pub with_facts : Contents → set.SetOf entry_cmp → set.SetOf origin_cmp → Contents
with_facts h slices origins = record { reel = h.reel; slices = set.union h.slices slices; origins = set.union h.origins origins }

-- the union of two holdings of one reel
abbrev pub joined : Contents → Contents → Contents
joined a b = with_facts a b.slices b.origins

-- all that is found in these copies
abbrev pub slices_of_copies : TileRules → List (List ℕ) → set.SetOf entry_cmp
slices_of_copies rules copies = set.from_list (flat_map (found_slices rules) copies)

-- each slice that is found in a copy, with the digest of the whole copy
abbrev pub origins_of_copy : TileRules → List ℕ → List Origin
origins_of_copy rules copy = map (λ e. (e, sha256 copy)) (found_slices rules copy)

abbrev pub origins_of_copies : TileRules → List (List ℕ) → set.SetOf origin_cmp
origins_of_copies rules copies = set.from_list (flat_map (origins_of_copy rules) copies)

-- with what is found in a copy
abbrev pub with_found : Contents → List ℕ → Contents
with_found h copy = with_facts h (set.from_list (found_slices h.reel.rules copy)) (set.from_list (origins_of_copy h.reel.rules copy))

-- with all that is found in these copies
abbrev pub with_copies : Contents → List (List ℕ) → Contents
with_copies h copies = with_facts h (slices_of_copies h.reel.rules copies) (origins_of_copies h.reel.rules copies)

-- The holding of a set of copies, which are listed in any order and as often as one likes.
abbrev pub holding_of : Reel → List (List ℕ) → Contents
holding_of reel copies = record { reel = reel; slices = slices_of_copies reel.rules copies; origins = origins_of_copies reel.rules copies }

-- the same copies, in whatever order and however often
abbrev pub HasSameCopies : List (List ℕ) → List (List ℕ) → Type 0
HasSameCopies copies others = HasSameMembers copies others

-- the digests of the copies that gave a slice, in their order
abbrev pub digests_of : Contents → Entry → List (List ℕ)
digests_of h e = digests_in h.origins e

-- digests in their order, each once
abbrev pub AreDigests : List (List ℕ) → Type 0
AreDigests = IsRising bytes_cmp

-- with a slice, and the digests of copies that gave it
abbrev pub with_entry : Contents → Entry → List (List ℕ) → Contents
with_entry h e digests =
    record { reel = h.reel; slices = set.insert h.slices e; origins = set.union h.origins (set.from_list (with_each e digests)) }

-- A slice of its tile. It is read with a keyframe bit exactly where that is tile 0.
pub record IsEntryOf (rules : TileRules) (e : Entry) : Type 0 where
  pub slice : IsSliceOf rules e.1 (e.0 == 0) e.0
  pub fits : length e.1 ≤ slice_limit

-- each is a slice of its tile
abbrev pub AreEntriesOf : TileRules → set.SetOf entry_cmp → Type 0
AreEntriesOf rules slices = (e : Entry) → set.contains slices e ≡ true → IsEntryOf rules e

-- each is also one by its record's own rules
abbrev pub AreOwnEntries : Contents → Type 0
AreOwnEntries h = (own : Reel) → IsOwnReel own h.reel → AreEntriesOf own.rules h.slices

-- no origin without its slice
abbrev pub AreHeld : set.SetOf entry_cmp → set.SetOf origin_cmp → Type 0
AreHeld slices origins = (o : Origin) → set.contains origins o ≡ true → set.contains slices o.0 ≡ true

-- each digest has 32 bytes
abbrev pub AreOfDigestLength : set.SetOf origin_cmp → Type 0
AreOfDigestLength origins = (o : Origin) → set.contains origins o ≡ true → length o.1 ≡ 32

-- What each holding keeps true: its reel is one, it holds slices of its tiles, and its origins are digests of what gave these.
pub record IsHolding (h : Contents) : Type 0 where
  pub reel : IsReel h.reel
  pub slices : AreEntriesOf h.reel.rules h.slices
  pub origins_held : AreHeld h.slices h.origins
  pub digests_whole : AreOfDigestLength h.origins

abbrev pub coded_contents : Coded Contents
coded_contents = code_by (Reel × (set.SetOf entry_cmp × set.SetOf origin_cmp)) (coded× coded_reel (coded× (set.code coded_entry) (set.code coded_origin)))
    (λ h. (h.reel, (h.slices, h.origins))) (λ p. record { reel = p.0; slices = p.1.0; origins = p.1.1 }) (λ _. refl)
