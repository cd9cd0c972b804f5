-- The contents of a frame's slices, decoded one after the other.
use Rattle.std.proofs.Common.{◌≡◌, ◌⊎◌, ℕ, ◌+◌, ◌<◌, List, [], ◌∷◌, ◌++◌, length, get_or, Err, refl, sym, ap, ◌∙◌, subst, arith, inl, inr}
use Rattle.std.specs.Prelude.{◌==◌, Option, slice_index_or}
use Rattle.std.proofs.lemmas.Bool.{cases_order}
use Rattle.std.proofs.lemmas.List.{length-map, get_or-map, length_push, get_or_push, get_or_append_left}
use Rattle.ffv1_range.specs.Setup.{RecordingValue}
use Rattle.ffv1_range.specs.SliceHeader.{slice_header_read}
use Rattle.ffv1_range.specs.declared.head.SliceHeader.{SliceHeader}
use Rattle.ffv1_range.specs.declared.head.HeadFault.{HeadFault}
use Rattle.ffv1_layout.specs.Layout.{listed_slice, header_at, contents_of}
use Rattle.ffv1_layout.specs.declared.layout.PlacedSlice.{PlacedSlice}
use Rattle.ffv1_samples.specs.States.{SliceStatesValue, FitSliceBefore}
use Rattle.ffv1_samples.specs.Slices.{SlicePictureValue, IsSlicePicture, FitContent}
use Rattle.ffv1_samples.specs.Faults.{IsSliceFault}
use Rattle.ffv1_samples.specs.declared.faults.SliceFault.{SliceFault}
use Rattle.ffv1_samples.specs.declared.faults.SliceFault.TheVariants as slice_faults
use Rattle.ffv1_samples.proofs.OnePicture.{one_header, no_header}
use Rattle.ffv1_player.specs.Frames.{LeftValue, states_left_at}
use Rattle.ffv1_player.specs.Inner.Decoding.{ArePictures, CanBegin, fault_of_slice, IsContentFault}
use Rattle.ffv1_player.specs.declared.fault.ContentFault.TheVariants as content_faults
use Rattle.ffv1_player.specs.declared.fault.SamplesFault.TheVariants.{Memory}

module _ (r : RecordingValue) (contents : List (List ℕ)) (headers : List SliceHeader) (before : List LeftValue) (can : CanBegin r contents headers before)
    (place : ℕ) (less : place < length contents) where
  -- the header of a content is the one that was placed
  pub fit_content : FitContent r (listed_slice contents place) (place == 0) (states_left_at before place)
  fit_content header start is =
      let begin = can.begin place less in
      subst (λ z. FitSliceBefore r z.0.tables (states_left_at before place))
      (one_header r (listed_slice contents place) (place == 0) (header_at headers place) header begin.0 start begin.1 is) (can.fit place less)

  pub has_header : (fault : HeadFault) → slice_header_read r (listed_slice contents place) (place == 0) ≡ Err fault → ⊥
  has_header fault refused =
      let begin = can.begin place less in
      no_header r (listed_slice contents place) (place == 0) (header_at headers place) begin.0 fault refused begin.1

  -- a content that is refused
  pub refused_slice : (pictures : List SlicePictureValue) (fault : SliceFault) → ArePictures r contents before pictures place
      → (fault ≡ slice_faults.Memory) ⊎ IsSliceFault r (listed_slice contents place) (place == 0) (states_left_at before place) fault
      → (fault_of_slice place fault ≡ Memory) ⊎ IsContentFault r contents before (fault_of_slice place fault)
  refused_slice pictures (slice_faults.Code fault plane y x) have (inl memory) = absurd cc
  refused_slice pictures (slice_faults.Code fault plane y x) have (inr refused) =
      inr (record {
        place = place;
        cause = content_faults.Code fault plane y x;
        is = refl;
        inside = less;
        pictures = pictures;
        have = have;
        refused = refused;
      })
  refused_slice pictures slice_faults.End have (inl memory) = absurd cc
  refused_slice pictures slice_faults.End have (inr refused) =
      inr (record { place = place; cause = content_faults.End; is = refl; inside = less; pictures = pictures; have = have; refused = refused })
  refused_slice pictures (slice_faults.Head fault) have (inl memory) = absurd cc
  refused_slice pictures (slice_faults.Head fault) have (inr refused) = absurd (has_header fault refused)
  refused_slice pictures slice_faults.Memory have refused = inl refl

-- ---- a content read from its slice

module _ (placed : List PlacedSlice) (place : ℕ) (d : PlacedSlice) (less : place < length placed) where
  pub content_of : listed_slice (contents_of placed) place ≡ (get_or placed place d).content.now
  content_of = get_or-map (λ slice. slice.content.now) placed place d [] less

  pub inside_contents : place < length (contents_of placed)
  inside_contents = omega (arith, less, length-map placed (λ slice. slice.content.now))

  -- what holds of the content and of the states before it
  pub of_slice : (P : List ℕ → Option SliceStatesValue → Type 0) (states before : Option SliceStatesValue) → states ≡ before → P (get_or placed place d).content.now states
      → P (listed_slice (contents_of placed) place) before
  of_slice P states before same h = subst (P (listed_slice (contents_of placed) place)) same (subst (λ content. P content states) (sym content_of) h)

  pub to_slice : (P : List ℕ → Option SliceStatesValue → Type 0) (states before : Option SliceStatesValue) → states ≡ before → P (listed_slice (contents_of placed) place) before
      → P (get_or placed place d).content.now states
  to_slice P states before same h = subst (P (get_or placed place d).content.now) (sym same) (subst (λ content. P content before) content_of h)

-- one picture more
pub more_pictures : (r : RecordingValue) (contents : List (List ℕ)) (before : List LeftValue) (pictures : List SlicePictureValue) (place : ℕ) (picture : SlicePictureValue)
    → ArePictures r contents before pictures place → IsSlicePicture r (listed_slice contents place) (place == 0) (states_left_at before place) picture
    → ArePictures r contents before (pictures ++ picture ∷ []) (place + 1)
more_pictures r contents before pictures place picture have h =
    record {
      long = length_push pictures picture ∙ ap (λ n. n + 1) have.long;
      each = λ k d less. elim (cases_order k place) [
        | inl same ↦
            let P : ℕ → Type 0 = λ n. IsSlicePicture r (listed_slice contents n) (n == 0) (states_left_at before n) (slice_index_or (pictures ++ picture ∷ []) n d) in
            subst P (sym same)
            (subst (IsSlicePicture r (listed_slice contents place) (place == 0) (states_left_at before place)) (sym (get_or_push pictures picture d place have.long)) h)
        | inr (inl below) ↦
            subst (IsSlicePicture r (listed_slice contents k) (k == 0) (states_left_at before k))
            (sym (get_or_append_left pictures (picture ∷ []) d k (omega (arith, below, have.long)))) (have.each k d below)
        | inr (inr above) ↦ absurd (omega arith)
      ];
    }
