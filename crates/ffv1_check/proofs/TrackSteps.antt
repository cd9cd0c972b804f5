-- What is known of the blocks of a track, after one part more.
use Rattle.std.proofs.Common.{◌≡◌, ℕ, ◌+◌, ℤ, Bool, true, false, cond, eqb, List, [], ◌∷◌, ◌++◌, refl, sym, ap, ◌∙◌, arith, subst, ◌<◌, ◌^◌, length, take, drop, set, get_or, get_or-set_same, get_or-set_other}
use Rattle.std.proofs.Math.ListN.{length-set}
use Rattle.std.proofs.lemmas.List.{append-nil, take_all, drop_all}
use Rattle.std.specs.Prelude.{◌&&◌, count_by, Option, Some, None, option_to_list}
use Rattle.std.specs.List.{fold}
use Rattle.std.proofs.lemmas.List.Sums.{fold-append, count_by-le-length, sum_by-append}
use Rattle.std.proofs.lemmas.Bool.{eqb-true, eq-eqb, ne_eqb}
use Rattle.matroska.specs.NamedTracks.{by_those_before}
use Rattle.matroska.proofs.NamedSteps.{by_those_before-append}
use Rattle.matroska_parts.specs.declared.parts.Part.{Part}
use Rattle.matroska_parts.specs.declared.parts.Part.TheVariants as part
use Rattle.matroska_parts.specs.declared.parts.BlockPart.{BlockPart}
use Rattle.matroska_parts.specs.declared.parts.Standing.{Standing}
use Rattle.matroska_parts.specs.declared.parts.Standing.TheVariants.{Short, Unnamed, Named}
use Rattle.matroska_parts.specs.declared.parts.TrackBlock.{TrackBlock}
use Rattle.ffv1_check.specs.declared.track_states.TrackState.{TrackState}
use Rattle.ffv1_check.specs.Before.{first_of, time_of, is_of, is_block_of, time_in, time_at, last_time}
use Rattle.ffv1_check.specs.CheckedBytes.{part_bytes, checked_bytes}
use Rattle.ffv1_check.specs.Reports.{is_checked, is_checked_in, is_checked_of}
use Rattle.ffv1_check.specs.Inner.Stands.{TrackStands, no_state, EachStands, EachCanCountMore}

abbrev pub one_if : Bool → ℕ
one_if b = cond b 1 0

pub count_more : {X : Type 0} (p : X → Bool) (xs : List X) (x : X) → count_by p (xs ++ x ∷ []) ≡ count_by p xs + one_if (p x)
count_more p xs x = fold-append (λ a y. a + one_if (p y)) 0 xs (x ∷ [])

abbrev last_in : Option ℤ → List ℤ → Option ℤ
last_in last times = fold (λ _ x. Some x) last times

last_time_more : (index : ℕ) (parts : List Part) (part : Part) → last_time index (parts ++ part ∷ []) ≡ last_in (last_time index parts) (time_at index parts part)
last_time_more index parts part =
    ap (last_in None) (by_those_before-append (time_at index) parts part) ∙ fold-append (λ _ x. Some x) None (by_those_before (time_at index) parts) (time_at index parts part)

last_by : (time last : Option ℤ) → last_in last (option_to_list time) ≡ first_of time last
last_by None last = refl
last_by (Some t) last = refl

-- how many bytes are checked, with those of one part more
pub bytes_more : (parts : List Part) (part : Part) → checked_bytes (parts ++ part ∷ []) ≡ checked_bytes parts + part_bytes part
bytes_more parts part = omega (arith, sum_by-append part_bytes parts (part ∷ []))

-- a part that is no block of the track
pub state_same : (parts : List Part) (part : Part) (index : ℕ) (state : TrackState) → TrackStands parts index state → is_block_of index part ≡ false
    → is_checked_of index part ≡ false → time_at index parts part ≡ [] → TrackStands (parts ++ part ∷ []) index state
state_same parts part index state stand other unchecked untimed = record {
  blocks = stand.blocks ∙ omega (arith, count_more (is_block_of index) parts part, ap one_if other);
  checked = stand.checked ∙ omega (arith, count_more (is_checked_of index) parts part, ap one_if unchecked);
  last = stand.last ∙ sym (last_time_more index parts part ∙ ap (last_in (last_time index parts)) untimed);
}

-- a block of the track
pub state_more : (parts : List Part) (block_part : BlockPart) (block : TrackBlock) (state new : TrackState) → TrackStands parts block.index state
    → block_part.standing ≡ Named block → new.blocks ≡ state.blocks + 1 → new.checked ≡ state.checked + one_if (is_checked block.is_vouched block.payload)
    → new.last ≡ first_of (time_of parts block) state.last → TrackStands (parts ++ part.Block block_part ∷ []) block.index new
state_more parts block_part block state new stand standing blocks checked last =
    let same : eqb block.index block.index ≡ true = eq-eqb block.index block.index refl in
    let is : is_block_of block.index (part.Block block_part) ≡ true = ap (is_of block.index) standing ∙ same in
    let counted : is_checked_of block.index (part.Block block_part) ≡ is_checked block.is_vouched block.payload =
    ap (is_checked_in block.index) standing ∙ ap (λ b. b && is_checked block.is_vouched block.payload) same in
    let timed : time_at block.index parts (part.Block block_part) ≡ option_to_list (time_of parts block) =
    ap (time_in block.index parts) standing ∙ ap (λ b. cond b (option_to_list (time_of parts block)) []) same in
    record {
      blocks = omega (arith, blocks, stand.blocks, count_more (is_block_of block.index) parts (part.Block block_part), ap one_if is);
      checked = omega (arith, checked, stand.checked, count_more (is_checked_of block.index) parts (part.Block block_part), ap one_if counted);
      last = last ∙ ap (first_of (time_of parts block)) stand.last ∙ sym (last_by (time_of parts block) (last_time block.index parts))
          ∙ sym (last_time_more block.index parts (part.Block block_part) ∙ ap (last_in (last_time block.index parts)) timed);
    }

-- ---- all tracks

pub others_same : (parts : List Part) (p : Part) (tracks : List TrackState) → EachStands parts tracks → ((block : BlockPart) → p ≡ part.Block block → ⊥)
    → EachStands (parts ++ p ∷ []) tracks
others_same parts (part.Unknown span) tracks each none = λ index within. state_same parts (part.Unknown span) index _ (each index within) refl refl refl
others_same parts (part.Begin opening) tracks each none = λ index within. state_same parts (part.Begin opening) index _ (each index within) refl refl refl
others_same parts (part.Timestamp timestamp) tracks each none = λ index within. state_same parts (part.Timestamp timestamp) index _ (each index within) refl refl refl
others_same parts (part.Block block) tracks each none = absurd (none block refl)
others_same parts (part.Record r) tracks each none = λ index within. state_same parts (part.Record r) index _ (each index within) refl refl refl
others_same parts (part.NoMatroska place) tracks each none = λ index within. state_same parts (part.NoMatroska place) index _ (each index within) refl refl refl
others_same parts (part.End closing) tracks each none = λ index within. state_same parts (part.End closing) index _ (each index within) refl refl refl

-- a standing in which no block is of the track
abbrev IsNotOf : List Part → ℕ → Standing → Type 0
IsNotOf parts index standing = (is_of index standing ≡ false) × (is_checked_in index standing ≡ false) × (time_in index parts standing ≡ [])

not_of_unnamed : (parts : List Part) (index : ℕ) (standing : Standing) → ((named : TrackBlock) → standing ≡ Named named → ⊥) → IsNotOf parts index standing
not_of_unnamed parts index Short none = (refl, refl, refl)
not_of_unnamed parts index (Unnamed track) none = (refl, refl, refl)
not_of_unnamed parts index (Named named) none = absurd (none named refl)

not_of_other : (parts : List Part) (index : ℕ) (named : TrackBlock) → (named.index ≡ index → ⊥) → IsNotOf parts index (Named named)
not_of_other parts index named apart =
    let other : eqb named.index index ≡ false = ne_eqb named.index index apart in
    (other, ap (λ b. b && is_checked named.is_vouched named.payload) other, ap (λ b. cond b (option_to_list (time_of parts named)) []) other)

block_same : (parts : List Part) (block : BlockPart) (index : ℕ) (state : TrackState) → TrackStands parts index state → IsNotOf parts index block.standing
    → TrackStands (parts ++ part.Block block ∷ []) index state
block_same parts block index state stand isnt = state_same parts (part.Block block) index state stand isnt.0 isnt.1 isnt.2

pub unnamed_same : (parts : List Part) (block : BlockPart) (tracks : List TrackState) → EachStands parts tracks
    → ((named : TrackBlock) → block.standing ≡ Named named → ⊥) → EachStands (parts ++ part.Block block ∷ []) tracks
unnamed_same parts block tracks each none =
    λ index within. block_same parts block index _ (each index within) (not_of_unnamed parts index block.standing none)

pub named_more : (parts : List Part) (block : BlockPart) (named : TrackBlock) (tracks : List TrackState) (state : TrackState) → EachStands parts tracks
    → block.standing ≡ Named named → named.index < length tracks → TrackStands (parts ++ part.Block block ∷ []) named.index state
    → EachStands (parts ++ part.Block block ∷ []) (set tracks named.index state)
named_more parts block named tracks state each standing below stands index within = go (eqb named.index index) refl
  where
    go : (b : Bool) → eqb named.index index ≡ b → TrackStands (parts ++ part.Block block ∷ []) index (get_or (set tracks named.index state) index no_state)
    go true e =
        let same : named.index ≡ index = eqb-true named.index index e in
        subst (λ n. TrackStands (parts ++ part.Block block ∷ []) n (get_or (set tracks named.index state) n no_state)) same
        (subst (TrackStands (parts ++ part.Block block ∷ []) named.index) (sym (get_or-set_same tracks named.index state no_state below)) stands)
    go false e =
        let apart : named.index ≡ index → ⊥ = λ same. let is : eqb named.index index ≡ true = eq-eqb named.index index same in let no : true ≡ false = sym is ∙ e in cc in
        let there : index < length tracks = omega (arith, within, length-set {A = TrackState}) in
        subst (TrackStands (parts ++ part.Block block ∷ []) index) (sym (get_or-set_other tracks named.index index state no_state (λ same. apart (sym same))))
        (block_same parts block index (get_or tracks index no_state) (each index there) (subst (IsNotOf parts index) (sym standing) (not_of_other parts index named apart)))

-- what stands in a list of which all was written anew
pub written : {X : Type 0} (new old : List X) (len : ℕ) → length new ≡ length old → len ≡ length old → take len (new ++ drop (length new) old) ≡ new
written new old len same is =
    ap (λ z. take len (new ++ z)) (drop_all (length new) old (omega (arith, same))) ∙ ap (take len) (append-nil new) ∙ take_all len new (omega (arith, same, is))

-- so few parts leave room
pub room_after : (parts : List Part) (tracks : List TrackState) → EachStands parts tracks → length parts < 2 ^ 63 → EachCanCountMore tracks
room_after parts tracks each few = λ index within.
    let stand = each index within in
    (omega (arith, stand.blocks, count_by-le-length (is_block_of index) parts), omega (arith, stand.checked, count_by-le-length (is_checked_of index) parts))
