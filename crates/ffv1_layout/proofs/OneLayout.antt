-- A payload is laid out in one way, and then it has no fault.
use Rattle.std.proofs.Common.{◌≡◌, ◌==◌, ℕ, ◌<◌, ◌≤◌, Bool, true, false, List, [], ◌∷◌, ◌++◌, length, refl, sym, ap, subst, ◌∙◌, Result, Ok, Err, if◌then◌else◌, arith}
use Rattle.std.specs.List.{slice_range}
use Rattle.std.proofs.lemmas.List.{ext_get_or}
use Rattle.ffv1_range.specs.Setup.{RecordingValue}
use Rattle.ffv1_range.specs.declared.head.SliceHeader.{SliceHeader}
use Rattle.ffv1_range.specs.declared.head.SliceStart.{SliceStart}
use Rattle.ffv1_range.specs.declared.head.HeadFault.{HeadFault}
use Rattle.ffv1_range.proofs.SliceHeaderFound.{slice_header_run}
use Rattle.ffv1_layout.specs.Cuts.{footer_length, AreCutAt, AreSlicesOf, slice_content}
use Rattle.ffv1_layout.specs.Cuts.AreCutAt.{no_slice, one_slice}
use Rattle.ffv1_layout.specs.Layout.{HasSliceHeader, HasNoSliceHeader, HaveHeaders, HasTile, no_header, header_at, listed_slice, SharesTile, IsInSlice, IsLaidOut, IsFirstLayoutFault}
use Rattle.ffv1_layout.specs.declared.fault.LayoutFault.{LayoutFault}
use Rattle.ffv1_slice.specs.declared.slice.LinkFault.{LinkFault}
use Rattle.ffv1_slice.specs.declared.slice.LinkFault.TheVariants.{Parity, Head}
use Rattle.ffv1_layout.specs.declared.fault.LayoutFault.TheVariants.{Chain, Slice, Overlap, Uncovered, Memory}

-- ---- one cut

pub one_cut : (footer : ℕ) (payload : List ℕ) (q : ℕ) (xs ys : List (List ℕ)) → 3 ≤ footer → AreCutAt footer payload q xs → AreCutAt footer payload q ys → xs ≡ ys
one_cut footer payload q xs ys some (no_slice at_start none) (no_slice at_start' none') = none ∙ sym none'
one_cut footer payload q xs ys some (no_slice at_start none) (one_slice p others gives are before) = absurd (omega arith)
one_cut footer payload q xs ys some (one_slice p others gives are before) (no_slice at_start none) = absurd (omega arith)
one_cut footer payload q xs ys some (one_slice p others gives are before) (one_slice p' others' gives' are' before') =
    let same : p' ≡ p = omega arith in
    let earlier = one_cut footer payload p others others' some before (subst (λ n. AreCutAt footer payload n others') same before') in
    are ∙ ap (λ zs. zs ++ slice_range payload p q ∷ []) earlier ∙ ap (λ n. others' ++ slice_range payload n q ∷ []) (sym same) ∙ sym are'

footer_long : (ec : ℕ) → 3 ≤ footer_length ec
footer_long ec = by_test (ec == 0)
  where
    by_test : (b : Bool) → 3 ≤ (if b then 3 else 8)
    by_test true = omega arith
    by_test false = omega arith

pub one_slices : (r : RecordingValue) (payload : List ℕ) (xs ys : List (List ℕ)) → AreSlicesOf r payload xs → AreSlicesOf r payload ys → xs ≡ ys
one_slices r payload xs ys a b = one_cut _ _ _ xs ys (footer_long r.setup.ec) a.cut b.cut

-- ---- one header

same_read : (read : Result (SliceHeader × SliceStart) HeadFault) (x y : SliceHeader × SliceStart) → read ≡ Ok x → read ≡ Ok y → x ≡ y
same_read read x y a b = cc

read_or_not : (read : Result (SliceHeader × SliceStart) HeadFault) (x : SliceHeader × SliceStart) (fault : HeadFault) → read ≡ Ok x → read ≡ Err fault → ⊥
read_or_not read x fault a b = cc

one_header : (r : RecordingValue) (slice : List ℕ) (first : Bool) (header other : SliceHeader) → HasSliceHeader r slice first header → HasSliceHeader r slice first other → header ≡ other
one_header r slice first header other a b =
    let p = slice_header_run r (slice_content r slice) first header a.start a.is_header in
    let q = slice_header_run r (slice_content r slice) first other b.start b.is_header in
    ap (λ x. x.0) (same_read _ (header, a.start) (other, b.start) p q)

pub has_no_fault : (r : RecordingValue) (slice : List ℕ) (first : Bool) (header : SliceHeader) (cause : LinkFault) → HasSliceHeader r slice first header
    → HasNoSliceHeader r slice first cause → ⊥
has_no_fault r slice first header Parity has none = none has.parity
has_no_fault r slice first header (Head fault) has none =
    read_or_not _ (header, has.start) fault (slice_header_run r (slice_content r slice) first header has.start has.is_header) none.1

-- headers of the same slices are alike up to a place
pub one_headers : (r : RecordingValue) (slices : List (List ℕ)) (headers more : List SliceHeader) (count : ℕ) → HaveHeaders r slices headers count
    → HaveHeaders r slices more count → (place : ℕ) → place < count → header_at headers place ≡ header_at more place
one_headers r slices headers more count a b place lt = one_header r _ _ _ _ (a place lt) (b place lt)

-- ---- laws

pub one_layout : (r : RecordingValue) (payload : List ℕ) (slices others : List (List ℕ)) (headers more : List SliceHeader)
    → IsLaidOut r payload slices headers → IsLaidOut r payload others more → (slices ≡ others) × (headers ≡ more)
one_layout r payload slices others headers more a b =
    let same = one_slices r payload slices others a.are_slices b.are_slices in
    let count : length headers ≡ length more = a.count ∙ ap length same ∙ sym b.count in
    let each = subst (λ xs. HaveHeaders r xs more (length xs)) (sym same) b.each in
    (same, ext_get_or no_header headers more count (λ place lt. one_headers r slices headers more (length slices) a.each each place (omega (arith, a.count))))

module _ (r : RecordingValue) (payload : List ℕ) (slices : List (List ℕ)) (headers : List SliceHeader) (laid : IsLaidOut r payload slices headers) where
  -- a tile in a slice of the one list is in that of the other
  in_other : (more : List SliceHeader) → HaveHeaders r slices more (length slices) → (tile : ℕ) → IsInSlice r.setup.across headers (length slices) tile
      → IsInSlice r.setup.across more (length slices) tile
  in_other more each tile is =
      (is.0, is.1, subst (λ h. HasTile r.setup.across h tile) (one_headers r slices headers more (length slices) laid.each each is.0 is.1) is.2)

  no_slice_fault : (others : List (List ℕ)) (place : ℕ) (cause : LinkFault) → slices ≡ others → place < length others
      → HasNoSliceHeader r (listed_slice others place) (place == 0) cause → ⊥
  no_slice_fault others place cause same lt none =
      has_no_fault r (listed_slice slices place) (place == 0) (header_at headers place) cause
      (laid.each place (subst (λ xs. place < length xs) (sym same) lt))
      (subst (λ xs. HasNoSliceHeader r (listed_slice xs place) (place == 0) cause) (sym same) none)

  no_overlap : (others : List (List ℕ)) (more : List SliceHeader) (place other : ℕ) → slices ≡ others → place < length others
      → HaveHeaders r others more (length others) → other < place → SharesTile r.setup.across (header_at more other) (header_at more place) → ⊥
  no_overlap others more place other same lt each less shared =
      let here : place < length slices = subst (λ xs. place < length xs) (sym same) lt in
      let all = subst (λ xs. HaveHeaders r xs more (length xs)) (sym same) each in
      laid.apart place other here less
      (subst (λ h. SharesTile r.setup.across h (header_at headers place)) (sym (one_headers r slices headers more (length slices) laid.each all other (omega arith)))
      (subst (λ h. SharesTile r.setup.across (header_at more other) h) (sym (one_headers r slices headers more (length slices) laid.each all place here)) shared))

  pub no_fault : (fault : LayoutFault) → IsFirstLayoutFault r payload fault → fault ≡ Memory
  no_fault Chain is = absurd (is slices laid.are_slices)
  no_fault (Slice place cause) is =
      absurd (no_slice_fault is.0 place cause (one_slices r payload slices is.0 laid.are_slices is.2) is.3 is.5)
  no_fault (Overlap place) is =
      absurd (no_overlap is.0 is.1 place is.6.0 (one_slices r payload slices is.0 laid.are_slices is.2) is.3 is.4 is.6.1 is.6.2)
  no_fault (Uncovered tile) is =
      let same = one_slices r payload slices is.0 laid.are_slices is.2 in
      let all = subst (λ xs. HaveHeaders r xs is.1 (length xs)) (sym same) is.4 in
      absurd (is.6 (subst (λ xs. IsInSlice r.setup.across is.1 (length xs) tile) same (in_other is.1 all tile (laid.covered tile is.3))))
  no_fault Memory is = refl
