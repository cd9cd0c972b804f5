use Rattle.std.proofs.Common.{◌≡◌, ℕ, ◌<◌, List, length, get_or, ◌∙◌, sym, subst, arith}
use Rattle.std.proofs.lemmas.List.{length-map}
use Rattle.ffv1_layout.specs.Layout.{header_at, headers_of, status_at, statuses_of}
use Rattle.ffv1_layout.specs.declared.layout.PlacedSlice.{PlacedSlice}
use Rattle.ffv1_makings.specs.Fitting.{IsAskedHeader, asked_status}
use Rattle.ffv1_makings.specs.declared.spec.SliceSpec.{SliceSpec}
use Rattle.ffv1_makings.proofs.headers.has_slices.Goals as goal

pub returns-in-Ok : goal.returns-in-Ok
returns-in-Ok c = λ yes.
    let r = c.args.recording.now in
    let asked = c.args.asked.now in
    let placed = c.in-Ok.placed.items in
    let HaveHeaders : List PlacedSlice → Type 0 = λ placed. (place : ℕ) (d : SliceSpec) → place < length asked
    → IsAskedHeader r (header_at (headers_of placed) place) (get_or asked place d) in
    let HaveStatuses : List PlacedSlice → Type 0 = λ placed. (place : ℕ) (d : SliceSpec) → place < length asked
    → status_at (statuses_of placed) place ≡ asked_status r (get_or asked place d) in
    let is = c.in-Ok.ensures.ok in
    let statuses : HaveStatuses placed = subst HaveStatuses c.deref.ensures.value (c.are_asked.ensures.statuses yes) in
    let count : length (headers_of placed) ≡ length asked = length-map placed (λ (slice : PlacedSlice). slice.header)
    ∙ subst (λ placed. length placed ≡ length asked) c.deref.ensures.value (c.are_asked.ensures.count yes) in
    record {
      slices = is.slices;
      headers = headers_of placed;
      laid_out = is.laid_out;
      count = count;
      each = subst HaveHeaders c.deref.ensures.value (c.are_asked.ensures.headers yes);
      statuses = λ place d lt. sym (is.statuses place (omega (arith, is.laid_out.count, count))) ∙ statuses place d lt;
    }
