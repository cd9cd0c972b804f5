-- A payload has one frame, and a payload that is refused has none.
use Rattle.std.proofs.Common.{◌≡◌, ℕ, suc, ◌-◌, ◌^◌, ◌<◌, Bool, true, false, List, [], ◌∷◌, length, map, get_or, refl, sym, ap, ◌∙◌, subst, inl, inr, arith}
use Rattle.std.specs.Prelude.{◌==◌, Option, Some, MatchBool, slice_index_or}
use Rattle.std.proofs.lemmas.List.{ext_get_or}
use Rattle.std.proofs.lemmas.Option.{same_Some, slice_get_cases}
use Rattle.ffv1_range.specs.Setup.{RecordingValue, IsInVersion3}
use Rattle.ffv1_range.specs.declared.head.SliceHeader.{SliceHeader}
use Rattle.ffv1_layout.specs.Cuts.{slice_content}
use Rattle.ffv1_layout.specs.Layout.{listed_slice, header_at, IsLaidOut}
use Rattle.ffv1_layout.proofs.OneLayout.{one_layout, no_fault}
use Rattle.ffv1_layout.specs.declared.fault.LayoutFault.TheVariants as layout_faults
use Rattle.ffv1_samples.specs.States.{FitSliceBefore, count_of_planes}
use Rattle.ffv1_samples.specs.Sizes.{slice_rect}
use Rattle.ffv1_samples.specs.Pictures.{slice_plane_at}
use Rattle.ffv1_samples.specs.Slices.{SlicePictureValue, IsSamePicture, FitContent}
use Rattle.ffv1_samples.specs.Faults.{IsSliceFault}
use Rattle.ffv1_samples.specs.declared.faults.SliceFault.{SliceFault}
use Rattle.ffv1_samples.proofs.OnePicture.{one_header, one_slice_picture}
use Rattle.ffv1_samples.proofs.Refusals.{refused_has_no_picture}
use Rattle.ffv1_player.specs.Patches.{patch_of, patched_plane}
use Rattle.ffv1_player.specs.Frames.{rect_in, frame_in, patch_in, frame_planes, slice_end_of, LeftValue, FrameGoesOn, is_key, BeginsWith, states_left_at, HavePictures, IsPlayedFrame, IsSameFrame}
use Rattle.ffv1_player.specs.Faults.{fault_of_layout, slice_fault, IsFirstStop, IsFirstSamplesFault}
use Rattle.ffv1_player.specs.Fitting.{FitLast}
use Rattle.ffv1_player.specs.declared.samples.Samples.{Samples}
use Rattle.ffv1_player.specs.declared.fault.SamplesFault.{SamplesFault}
use Rattle.ffv1_player.specs.declared.fault.SamplesFault.TheVariants.{Chain, Slice, Overlap, Uncovered, Previous, Content, Memory}
use Rattle.ffv1_player.proofs.Sizes.{plane_of_frame, count_of_frame}
use Rattle.ffv1_player.proofs.Beginnings.{fit_before}

-- ---- frames of the same pictures

maps_same : {B : Type 0} (f : SlicePictureValue → B) (xs ys : List SlicePictureValue) → length xs ≡ length ys
    → ((k : ℕ) (d : SlicePictureValue) → k < length xs → f (get_or xs k d) ≡ f (get_or ys k d)) → map f xs ≡ map f ys
maps_same f [] [] long each = refl
maps_same f [] (y ∷ ys) long each = absurd (omega arith)
maps_same f (x ∷ xs) [] long each = absurd (omega arith)
maps_same f (x ∷ xs) (y ∷ ys) long each =
    ap (λ z. z ∷ map f xs) (each 0 x (omega arith))
    ∙ ap (λ zs. f y ∷ zs) (maps_same f xs ys (omega arith) (λ k d less. each (suc k) d (omega arith)))

pub patch_same : (r : RecordingValue) (p : ℕ) (a b : SlicePictureValue) → IsSamePicture r a b → patch_in r p a ≡ patch_in r p b
patch_same r p a b same =
    ap (λ header. patch_of (rect_in r p (slice_rect r header)) (slice_plane_at a.planes p)) same.header
    ∙ ap (λ planes. patch_of (rect_in r p (slice_rect r b.header)) (slice_plane_at planes p)) same.planes

pub end_same : (r : RecordingValue) (a b : SlicePictureValue) → IsSamePicture r a b → slice_end_of a ≡ slice_end_of b
end_same r a b same =
    ap (λ spare. record { spare_bits = spare; is_clean = a.is_clean }) same.spare_bits
    ∙ ap (λ clean. record { spare_bits = b.spare_bits; is_clean = clean }) same.is_clean

planes_same : (r : RecordingValue) (pictures others : List SlicePictureValue) → length pictures ≡ length others
    → ((k : ℕ) (d : SlicePictureValue) → k < length pictures → IsSamePicture r (slice_index_or pictures k d) (slice_index_or others k d))
    → frame_planes r pictures ≡ frame_planes r others
planes_same r pictures others long each =
    ext_get_or [] (frame_planes r pictures) (frame_planes r others) (count_of_frame r pictures ∙ sym (count_of_frame r others)) (λ p less.
    let inside : p < count_of_planes r = omega (arith, less, count_of_frame r pictures) in
    plane_of_frame r pictures p inside
    ∙ ap (patched_plane (2 ^ (r.depth - 1)) (frame_in r p).w (frame_in r p).h)
    (maps_same (patch_in r p) pictures others long (λ k d among. patch_same r p _ _ (each k d among)))
    ∙ sym (plane_of_frame r others p inside))

-- ---- one beginning

pub before_by : (r : RecordingValue) (headers : List SliceHeader) (last : Option (List LeftValue)) (before other : List LeftValue) (key : Bool)
    → MatchBool key (before ≡ []) ((last ≡ Some before) × FrameGoesOn r headers before)
    → MatchBool key (other ≡ []) ((last ≡ Some other) × FrameGoesOn r headers other) → before ≡ other
before_by r headers last before other true h k = h ∙ sym k
before_by r headers last before other false h k = same_Some before other (sym h.0 ∙ k.0)

module _ (r : RecordingValue) (version : IsInVersion3 r) (last : Option (List LeftValue)) (fit : FitLast r last) (payload : List ℕ)
    (slices : List (List ℕ)) (headers : List SliceHeader) (laid_out : IsLaidOut r payload slices headers) (before : List LeftValue)
    (begins : BeginsWith r headers last before) where
  pub content_fits : (place : ℕ) → place < length slices → FitContent r (slice_content r (listed_slice slices place)) (place == 0) (states_left_at before place)
  content_fits place less header start is =
      let has = laid_out.each place less in
      subst (λ z. FitSliceBefore r z.0.tables (states_left_at before place))
      (one_header r (slice_content r (listed_slice slices place)) (place == 0) (header_at headers place) header has.start start has.is_header is)
      (fit_before r headers last before place (omega (arith, less, laid_out.count)) fit begins)

  one_picture : (pictures others : List SlicePictureValue) → HavePictures r slices before pictures (length slices) → HavePictures r slices before others (length slices)
      → (place : ℕ) (d : SlicePictureValue) → place < length slices → IsSamePicture r (slice_index_or pictures place d) (slice_index_or others place d)
  one_picture pictures others h k place d less =
      one_slice_picture r (slice_content r (listed_slice slices place)) (place == 0) (states_left_at before place) _ _ version (content_fits place less)
      (h.1 place d less) (k.1 place d less)

  pub not_stopped : (place : ℕ) → is_key headers ≡ false → IsFirstStop r headers last place → ⊥
  not_stopped place no_key stop = by_begin (subst (λ key. MatchBool key (before ≡ []) ((last ≡ Some before) × FrameGoesOn r headers before)) no_key begins)
    where
      by_begin : (last ≡ Some before) × FrameGoesOn r headers before → ⊥
      by_begin goes = by_stop (subst (λ l. IsFirstStop r headers l place) goes.0 stop)
        where
          by_stop : IsFirstStop r headers (Some before) place → ⊥
          by_stop stopped = elim stopped.1 [
            | inl unequal ↦ absurd (unequal.1 (goes.1.1 place unequal.0))
            | inr more ↦ absurd (omega (arith, more.1, goes.1.0))
          ]

  -- a slice that has a picture has no fault
  pub not_refused : (pictures : List SlicePictureValue) (count place : ℕ) → HavePictures r slices before pictures count → place < count → place < length slices
      → (fault : SliceFault) → IsSliceFault r (slice_content r (listed_slice slices place)) (place == 0) (states_left_at before place) fault → ⊥
  not_refused pictures count place have less inside fault refused = elim (slice_get_cases pictures place).1 [
    | inl some ↦
        refused_has_no_picture r (slice_content r (listed_slice slices place)) (place == 0) (states_left_at before place) fault (slice_index_or pictures place some.0) version
        (content_fits place inside) refused (have.1 place some.0 less)
    | inr none ↦ absurd (omega (arith, none.0, less, have.0))
  ]

-- ---- one frame

module _ (r : RecordingValue) (version : IsInVersion3 r) (last : Option (List LeftValue)) (fit : FitLast r last) (payload : List ℕ) (frame : Samples)
    (left : List LeftValue) (h : IsPlayedFrame r last payload frame left) where
  pub one_frame : (other : Samples) (more : List LeftValue) → IsPlayedFrame r last payload other more → IsSameFrame other frame
  one_frame other more k =
      let e = one_layout r payload k.slices h.slices k.headers h.headers k.laid_out h.laid_out in
      let begins = subst (λ headers. BeginsWith r headers last k.before) e.1 k.begins in
      let same : k.before ≡ h.before = before_by r h.headers last k.before h.before (is_key h.headers) begins h.begins in
      let have : HavePictures r h.slices h.before k.pictures (length h.slices) =
      subst (λ before. HavePictures r h.slices before k.pictures (length h.slices)) same
      (subst (λ slices. HavePictures r slices k.before k.pictures (length slices)) e.0 k.have) in
      let long : length k.pictures ≡ length h.pictures = have.0 ∙ sym h.have.0 in
      let each : (place : ℕ) (d : SlicePictureValue) → place < length k.pictures → IsSamePicture r (slice_index_or k.pictures place d) (slice_index_or h.pictures place d) =
      λ place d less. one_picture r version last fit payload h.slices h.headers h.laid_out h.before h.begins k.pictures h.pictures have h.have place d
      (omega (arith, less, have.0)) in
      record {
        width = k.is_frame.width ∙ sym h.is_frame.width;
        height = k.is_frame.height ∙ sym h.is_frame.height;
        shift_h = k.is_frame.shift_h ∙ sym h.is_frame.shift_h;
        shift_v = k.is_frame.shift_v ∙ sym h.is_frame.shift_v;
        is_rgb = k.is_frame.is_rgb ∙ sym h.is_frame.is_rgb;
        has_alpha = k.is_frame.has_alpha ∙ sym h.is_frame.has_alpha;
        depth = k.is_frame.depth ∙ sym h.is_frame.depth;
        is_key = k.is_frame.is_key ∙ ap is_key e.1 ∙ sym h.is_frame.is_key;
        planes = k.is_frame.planes ∙ planes_same r k.pictures h.pictures long each ∙ sym h.is_frame.planes;
        slices =
            k.is_frame.slices ∙ maps_same slice_end_of k.pictures h.pictures long (λ place d less. end_same r _ _ (each place d less)) ∙ sym h.is_frame.slices;
      }

  pub refused_has_no_frame : (fault : SamplesFault) → IsFirstSamplesFault r last payload fault → fault ≡ Memory
  refused_has_no_frame Chain f = ap fault_of_layout (no_fault r payload h.slices h.headers h.laid_out layout_faults.Chain f)
  refused_has_no_frame (Slice place cause) f =
      ap fault_of_layout (no_fault r payload h.slices h.headers h.laid_out (layout_faults.Slice place cause) f)
  refused_has_no_frame (Overlap place) f = ap fault_of_layout (no_fault r payload h.slices h.headers h.laid_out (layout_faults.Overlap place) f)
  refused_has_no_frame (Uncovered tile) f = ap fault_of_layout (no_fault r payload h.slices h.headers h.laid_out (layout_faults.Uncovered tile) f)
  refused_has_no_frame (Previous place) f =
      let e = one_layout r payload f.0 h.slices f.1 h.headers f.2 h.laid_out in
      absurd (not_stopped r version last fit payload h.slices h.headers h.laid_out h.before h.begins place (subst (λ headers. is_key headers ≡ false) e.1 f.3)
      (subst (λ headers. IsFirstStop r headers last place) e.1 f.4))
  refused_has_no_frame (Content place cause) f =
      let e = one_layout r payload f.0 h.slices f.1 h.headers f.2 h.laid_out in
      let begins = subst (λ headers. BeginsWith r headers last f.3.0) e.1 f.3.1 in
      let same : f.3.0 ≡ h.before = before_by r h.headers last f.3.0 h.before (is_key h.headers) begins h.begins in
      let refused = subst (λ before. IsSliceFault r (slice_content r (listed_slice h.slices place)) (place == 0) (states_left_at before place) (slice_fault cause)) same
      (subst (λ slices. IsSliceFault r (slice_content r (listed_slice slices place)) (place == 0) (states_left_at f.3.0 place) (slice_fault cause)) e.0 f.3.4) in
      let inside : place < length h.slices = subst (λ slices. place < length slices) e.0 f.3.3 in
      absurd (not_refused r version last fit payload h.slices h.headers h.laid_out h.before h.begins h.pictures (length h.slices) place h.have inside inside (slice_fault cause) refused)
  refused_has_no_frame Memory f = refl
