-- The counts of tracks, one by one.
use Rattle.std.proofs.Common.{◌≡◌, ℕ, ◌+◌, ◌<◌, Bool, true, false, eqb, List, [], ◌∷◌, ◌++◌, length, get_or, refl, sym, ap, ◌∙◌, subst, arith}
use Rattle.std.specs.Prelude.{slice_get, Some}
use Rattle.std.proofs.Math.Seq.{get_or-append_seam}
use Rattle.std.proofs.Math.ListN.{get_or-append}
use Rattle.std.proofs.lemmas.Bool.{eqb-true, eq-eqb}
use Rattle.std.proofs.lemmas.List.{length-append}
use Rattle.std.proofs.lemmas.Option.{slice_get-get_or, get_or_from_slice_get}
use Rattle.matroska.specs.declared.track.Track.{Track}
use Rattle.ffv1_check.specs.declared.track_states.TrackState.{TrackState}
use Rattle.ffv1_check.specs.declared.report.TrackCount.{TrackCount}
use Rattle.ffv1_check.specs.Inner.Stands.{no_state, counted_in}

-- the first tracks are counted
pub record AreCountedTo (k : ℕ) (tracks : List Track) (states : List TrackState) (counts : List TrackCount) : Type 0 where
  pub as_many : length counts ≡ k
  pub each : (index : ℕ) → index < k → (track : Track) → slice_get tracks index ≡ Some track
      → slice_get counts index ≡ Some (counted_in track (get_or states index no_state))

old_there : {X : Type 0} (xs : List X) (x : X) (k : ℕ) → k < length xs → slice_get (xs ++ x ∷ []) k ≡ slice_get xs k
old_there xs x k within =
    slice_get-get_or (xs ++ x ∷ []) k x (omega (arith, within, length-append xs (x ∷ []))) ∙ ap (λ z. Some z) (get_or-append xs (x ∷ []) x k within)
    ∙ sym (slice_get-get_or xs k x within)

new_there : {X : Type 0} (xs : List X) (x : X) → slice_get (xs ++ x ∷ []) (length xs) ≡ Some x
new_there xs x =
    slice_get-get_or (xs ++ x ∷ []) (length xs) x (omega (arith, length-append xs (x ∷ []))) ∙ ap (λ z. Some z) (get_or-append_seam xs x [] x)

-- and one more
pub counted_more : (k : ℕ) (tracks : List Track) (states : List TrackState) (counts new : List TrackCount) (track : Track) (state : TrackState)
    → slice_get tracks k ≡ Some track → state ≡ get_or states k no_state → AreCountedTo k tracks states counts → new ≡ counts ++ counted_in track state ∷ []
    → AreCountedTo (k + 1) tracks states new
counted_more k tracks states counts new track state at is are grown = record {
  as_many = omega (arith, ap length grown, length-append counts (counted_in track state ∷ []), are.as_many);
  each = λ index within other there. go index within other there (eqb index k) refl;
}
  where
    go : (index : ℕ) → index < k + 1 → (other : Track) → slice_get tracks index ≡ Some other → (b : Bool) → eqb index k ≡ b
        → slice_get new index ≡ Some (counted_in other (get_or states index no_state))
    go index within other there true e =
        let same : index ≡ k = eqb-true index k e in
        let one : other ≡ track =
        sym (get_or_from_slice_get tracks k other track (subst (λ n. slice_get tracks n ≡ Some other) same there)) ∙ get_or_from_slice_get tracks k track track at in
        ap (λ z. slice_get z index) grown ∙ ap (slice_get (counts ++ counted_in track state ∷ [])) (same ∙ sym are.as_many)
        ∙ new_there counts (counted_in track state) ∙ ap (λ z. Some (counted_in track z)) is ∙ ap (λ z. Some (counted_in z (get_or states k no_state))) (sym one)
        ∙ ap (λ n. Some (counted_in other (get_or states n no_state))) (sym same)
    go index within other there false e =
        let apart : index ≡ k → ⊥ = λ same. let is : eqb index k ≡ true = eq-eqb index k same in let no : true ≡ false = sym is ∙ e in cc in
        let below : index < k = omega (arith, within, apart) in
        ap (λ z. slice_get z index) grown ∙ old_there counts (counted_in track state) index (omega (arith, below, are.as_many)) ∙ are.each index below other there
