-- What a slice's header keeps of its recording.
use Rattle.std.proofs.Common.{◌≡◌, ℕ, ◌+◌, ◌<◌, ◌≤◌, Bool, true, false, List, [], ◌∷◌, ◌++◌, length, length-append, refl, sym, ap, ◌∙◌, subst, arith}
use Rattle.std.specs.Prelude.{slice_index, IsOk, ◌==◌, if◌then◌else◌}
use Rattle.ffv1_range.specs.Decoder.{Reader}
use Rattle.std.specs.List.{All}
use Rattle.ffv1_range.specs.Coding.{Coder}
use Rattle.ffv1_range.specs.Setup.{RecordingValue, IsInVersion3}
use Rattle.ffv1_range.specs.SliceHeader.{slice_mode, slice_bytes, field_count, table_indexes, FollowsHeader, IsSliceHeaderOf}
use Rattle.ffv1_range.specs.declared.coding.RangeFault.{RangeFault}
use Rattle.ffv1_range.specs.declared.head.SliceHeader.{SliceHeader}
use Rattle.ffv1_range.specs.declared.head.SliceStart.{SliceStart}
use Rattle.ffv1_range.specs.declared.head.SliceStart.TheVariants.{Codes, Samples}
use Rattle.ffv1_range.proofs.HeaderFound.{header_leaves}
use Rattle.ffv1_range.proofs.Spelling.{same_ok}
use Rattle.ffv1_samples.specs.Inner.Headers.{IsHeaderWithin, IsStartWithin}

alpha_within : (has_alpha : Bool) (n : ℕ) (fields : List ℕ) → 1 ≤ n → All (λ table. table < n) (table_indexes has_alpha fields)
    → (if has_alpha then slice_index fields 6 else 0) < n
alpha_within true n fields some h = h 2 0 (omega arith)
alpha_within false n fields some h = omega (arith, some)

pub header_within : (r : RecordingValue) (content : List ℕ) (first : Bool) (header : SliceHeader) (start : SliceStart) → IsInVersion3 r
    → IsSliceHeaderOf r content first header start → IsHeaderWithin r header
header_within r content first header start version h =
    subst (IsHeaderWithin r) (sym h.values)
    (record {
      columns = h.fits.columns;
      rows = h.fits.rows;
      some_columns = omega arith;
      some_rows = omega arith;
      luma = h.fits.tables 0 0 (omega arith);
      chroma = h.fits.tables 1 0 (omega arith);
      alpha = alpha_within r.has_alpha (length r.setup.sets) h.fields version.some_set h.fits.tables;
    })

-- where a range coder goes on, fewer bytes follow than its content has, the zero byte after it included
pub start_within : (r : RecordingValue) (content : List ℕ) (first : Bool) (header : SliceHeader) (start : SliceStart)
    → IsSliceHeaderOf r content first header start → IsStartWithin r content start
start_within r content first header start h = goes_on start h.follows
  where
    bytes_long : (b : Bool) → length (if b then content else content ++ 0 ∷ []) ≤ length content + 1
    bytes_long true = omega arith
    bytes_long false = omega (arith, length-append content (0 ∷ []))

    goes_on : (s : SliceStart) → FollowsHeader r content h.end s → IsStartWithin r content s
    goes_on (Samples decoder) f =
        let left = header_leaves (slice_mode r) (field_count r.has_alpha) (slice_bytes r content) header.key h.fields h.end refl h.coded in
        let long = bytes_long (r.coder == 0) in (
          f.0,
          subst (λ (d : Reader). IsOk d.at) (sym f.1) refl,
          ap (λ (d : Reader). d.mode.closed) f.1,
          λ c at.
              let end : h.end ≡ c = same_ok {E = RangeFault} h.end c (sym (ap (λ (d : Reader). d.at) f.1) ∙ at) in
              omega (arith, ap (λ (z : Coder). length z.rest) end, left, long),
        )
    goes_on (Codes place) f = (f.0, omega (arith, f.1.at))
