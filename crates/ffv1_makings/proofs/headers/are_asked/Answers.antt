use Rattle.std.proofs.Common.{◌≡◌, ℕ, ◌<◌, List, None, length, get_or, arith, sym, ap, subst, ◌∙◌, below_more}
use Rattle.std.proofs.lemmas.List.{get_or-map, get_or_default}
use Rattle.ffv1_range.specs.Setup.{RecordingValue}
use Rattle.ffv1_layout.specs.Layout.{no_header, header_at, headers_of, status_at, statuses_of}
use Rattle.ffv1_layout.specs.declared.layout.PlacedSlice.{PlacedSlice}
use Rattle.ffv1_makings.specs.Fitting.{IsAskedHeader, asked_status}
use Rattle.ffv1_makings.specs.declared.spec.SliceSpec.{SliceSpec}
use Rattle.ffv1_makings.proofs.headers.are_asked.Goals as goal

module _ (r : RecordingValue) (placed : List PlacedSlice) (asked : List SliceSpec) (n : ℕ) (slice : PlacedSlice) (d e : SliceSpec)
    (lt : n < length placed) (less : n < length asked) where
  -- a header that was read by its place
  header_here : IsAskedHeader r (get_or placed n slice).header (get_or asked n d) → IsAskedHeader r (header_at (headers_of placed) n) (get_or asked n e)
  header_here is =
      subst (λ header. IsAskedHeader r header (get_or asked n e)) (sym (get_or-map (λ (s : PlacedSlice). s.header) placed n slice no_header lt))
      (subst (IsAskedHeader r (get_or placed n slice).header) (get_or_default asked n d e less) is)

  -- .. and an error status
  status_here : (get_or placed n slice).status ≡ asked_status r (get_or asked n d) → status_at (statuses_of placed) n ≡ asked_status r (get_or asked n e)
  status_here is =
      get_or-map (λ (s : PlacedSlice). s.status) placed n slice None lt ∙ is ∙ ap (asked_status r) (get_or_default asked n d e less)

pub loop-place-preserved : goal.loop-place-preserved
loop-place-preserved c =
    let r = c.args.recording.now in
    let placed = c.args.placed.now in
    let asked = c.args.asked.now in
    let n = c.loop-place.place in
    record {
      headers = λ place d lt. below_more (λ (k : ℕ). IsAskedHeader r (header_at (headers_of placed) k) (get_or asked k d)) n
          (λ k less. c.loop-place.invariant.headers k d less)
          (header_here r placed asked n _ _ d (omega arith) (omega (arith, c.if-placed-asked.false)) (c.is_asked.ensures.header c.if-not-is_asked.false)) place lt;
      statuses = λ place d lt. below_more (λ (k : ℕ). status_at (statuses_of placed) k ≡ asked_status r (get_or asked k d)) n
          (λ k less. c.loop-place.invariant.statuses k d less)
          (status_here r placed asked n _ _ d (omega arith) (omega (arith, c.if-placed-asked.false)) (c.is_asked.ensures.status c.if-not-is_asked.false)) place lt;
    }

pub returns-clause-headers : goal.returns-clause-headers
returns-clause-headers c = λ yes place d lt. c.loop-place.invariant.headers place d (omega (arith, c.if-placed-asked.false))

pub returns-clause-statuses : goal.returns-clause-statuses
returns-clause-statuses c = λ yes place d lt. c.loop-place.invariant.statuses place d (omega (arith, c.if-placed-asked.false))
