-- How far an input may have been read where a write failed (own): to the end of its first entry that is not whole in what was
-- written.
use Rattle.std.specs.Prelude.{ℕ, ◌≡◌, ◌⊎◌, List, [], ◌∷◌, ◌++◌, length, Contains, Option, Some, None}
use Rattle.std.specs.List.{AllByRecursion}
use Rattle.ffv1_range.specs.declared.frames.Frames.{Frames}
use Rattle.ffv1_holding.specs.Reels.{Reel, in_frames}
use Rattle.ffv1_holding.specs.Contents.{Contents, digests_of, joined}
use Rattle.ffv1_hold.specs.declared.version.Version.{Version}
use Rattle.ffv1_hold.specs.declared.version.Version.TheVariants.{Second}
use Rattle.ffv1_hold.specs.HoldingText.{FileEntry, head_text, entry_text, entries_text, file_entries, file_text}
use Rattle.ffv1_hold.specs.FileEntries.{HasText}

-- All digests of an entry's slice: exactly those that the holding and the other one give it. If no other is given, they are some
-- among which are the entry's own.
abbrev pub AreAllDigests : Contents → Option Contents → FileEntry → List (List ℕ) → Type 0
AreAllDigests h None e digests = AllByRecursion (Contains digests) e.1
AreAllDigests h (Some other) e digests = digests ≡ digests_of (joined h other) e.0

-- The entry lies whole in the bytes: after the head of the reel, in its frames or in any, and whole entries its slice stands there, with digests
-- that are all.
pub record LiesWhole (AreAll : FileEntry → List (List ℕ) → Type 0) (r : Reel) (bytes : List ℕ) (e : FileEntry) : Type 0 where
  pub frames : Frames
  pub before : List FileEntry
  pub digests : List (List ℕ)
  pub rest : List ℕ
  pub entries : AllByRecursion (HasText Second) before
  pub entry : HasText Second (e.0, digests)
  pub all : AreAll e digests
  pub split : bytes ≡ head_text Second (in_frames frames r) ++ entries_text Second before ++ entry_text Second (e.0, digests) ++ rest

-- The place in a holding's text where the first of its entries that doesn't lie whole in the bytes ends.
pub record EndsFirstOpen (v : Version) (h : Contents) (other : Option Contents) (bytes : List ℕ) (place : ℕ) : Type 0 where
  pub before : List FileEntry
  pub first : FileEntry
  pub after : List FileEntry
  pub split : file_entries h ≡ before ++ first ∷ after
  pub whole : AllByRecursion (LiesWhole (AreAllDigests h other) h.reel bytes) before
  pub not_whole : ¬ LiesWhole (AreAllDigests h other) h.reel bytes first
  pub is_end : place ≡ length (head_text v h.reel ++ entries_text v (before ++ first ∷ []))

-- The read_limit of a holding's text over the bytes: that place, or the text's length where all its entries lie whole in them.
abbrev pub IsReadLimitOf : Version → Contents → Option Contents → List ℕ → ℕ → Type 0
IsReadLimitOf v h other bytes read_limit = EndsFirstOpen v h other bytes read_limit
    ⊎ (AllByRecursion (LiesWhole (AreAllDigests h other) h.reel bytes) (file_entries h) × (read_limit ≡ length (file_text v h)))
