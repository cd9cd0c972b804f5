-- Damage within one link of a frame is seen.
use Rattle.std.proofs.Common.{◌≡◌, ℕ, ◌+◌, ◌-◌, ◌≤◌, Bool, true, false, cond, eqb, List, [], ◌∷◌, ◌++◌, length, take, drop, refl, sym, ap, ◌∙◌, subst, arith}
use Rattle.std.specs.Prelude.{◌&&◌, nat_lt, slice_range, count_by}
use Rattle.std.specs.List.{AllByRecursion}
use Rattle.std.proofs.lemmas.Bool.{eqb-true, ltb-true, and_parts}
use Rattle.std.proofs.lemmas.List.{length-append, length-drop, length-take-le, append_assoc, take_at, drop_at, drop-drop, take-append-drop}
use Rattle.std.proofs.lemmas.List.Folds.{drop_split}
use Rattle.std.proofs.lemmas.List.Sums.{count_by-le-length, sum_by-cons}
use Rattle.byteorder.specs.Endian.{big_number}
use Rattle.ffv1_bits.specs.Parity.{AreBytes, PassesParity, remainder_of}
use Rattle.ffv1_bits.specs.Bits.{bits_of}
use Rattle.ffv1_bits.proofs.Burst.{burst}
use Rattle.ffv1_bits.proofs.Bytes.{AreBytes-drop, AreBytes-take}
use Rattle.ffv1_slice.specs.Chain.{size_before, IsEnd, IsLinkOf, LinkValue, link_of}
use Rattle.ffv1_slice.specs.Chain.IsEnd.{last, before}
use Rattle.ffv1_slice.proofs.Links.{end_within}
use Rattle.ffv1_scan.specs.Verdicts.{is_passing, is_whole, is_undamaged, IsVerdictOf}
use Rattle.ffv1_scan.specs.declared.verdict.Verdict.{Verdict}
use Rattle.ffv1_check.specs.LinkDamage.{DifferInFrame}
use Rattle.ffv1_check.proofs.VerdictOne.{all_contained}

-- ---- each link of a right frame passes

abbrev Passes : LinkValue → Type 0
Passes link = is_passing link ≡ true

all_counted : (links : List LinkValue) → count_by is_passing links ≡ length links → AllByRecursion Passes links
all_counted [] all = tt
all_counted (x ∷ xs) all =
    go (λ rest. all_counted xs rest) (is_passing x) refl (sym (sum_by-cons (λ (link : LinkValue). cond (is_passing link) 1 0) x xs) ∙ all)
  where
    go : (count_by is_passing xs ≡ length xs → AllByRecursion Passes xs) → (t : Bool) → is_passing x ≡ t → cond t 1 0 + count_by is_passing xs ≡ length (x ∷ xs)
        → AllByRecursion Passes (x ∷ xs)
    go later true e count = (e, later (omega (arith, count)))
    go later false e count = absurd (omega (arith, count, count_by-le-length is_passing xs))

all_pass : (frame : List ℕ) (verdict : Verdict) (p q : ℕ) → IsVerdictOf frame verdict → is_undamaged verdict ≡ true → IsLinkOf frame p q
    → PassesParity (slice_range frame p q)
all_pass frame verdict p q is right link =
    let two = and_parts (is_whole verdict.end) (nat_lt 0 verdict.links && eqb verdict.passing verdict.links) right in
    let equal = eqb-true verdict.passing verdict.links (and_parts (nat_lt 0 verdict.links) (eqb verdict.passing verdict.links) two.1).1 in
    let all = all_counted is.links (sym is.passing ∙ equal ∙ is.count) in
    let passes = all_contained Passes is.links (link_of frame p q) all (is.are_links.all p q link) in
    let both = and_parts (nat_lt 8 (length (slice_range frame p q))) (eqb (remainder_of (bits_of (slice_range frame p q))) 0) passes in
    let long = ltb-true 8 (length (slice_range frame p q)) both.0 in
    (omega (arith, long), eqb-true (remainder_of (bits_of (slice_range frame p q))) 0 both.1)

-- ---- the links of the damaged frame

pub frame_length : (frame damaged : List ℕ) → DifferInFrame frame damaged → length frame ≡ length damaged
frame_length frame damaged d =
    let within = end_within frame d.end d.link.is_end in
    let cut : d.start + size_before frame d.end + 8 ≡ d.end = d.link.cut in
    let long = d.within.same_length in
    let all = drop_split frame d.start d.end (omega (arith, cut)) in
    omega (
      arith,
      ap length d.damaged_is,
      length-append (take d.start frame) (d.other ++ drop d.end frame),
      length-append d.other (drop d.end frame),
      ap length all,
      length-append (slice_range frame d.start d.end) (drop d.end frame),
      long,
      length-take-le d.start frame (omega (arith, cut, within)),
      length-drop d.start frame,
      within,
      cut,
    )

module _ (frame damaged : List ℕ) (d : DifferInFrame frame damaged) where
  within : d.end ≤ length frame
  within = end_within frame d.end d.link.is_end

  ordered : d.start + 8 ≤ d.end
  ordered = let cut : d.start + size_before frame d.end + 8 ≡ d.end = d.link.cut in omega (arith, cut)

  front_long : length (take d.start frame) ≡ d.start
  front_long = length-take-le d.start frame (omega (arith, within, ordered))

  other_long : d.start + length d.other ≡ d.end
  other_long =
      let all = drop_split frame d.start d.end (omega (arith, ordered)) in
      omega (
        arith,
        d.within.same_length,
        ap length all,
        length-append (slice_range frame d.start d.end) (drop d.end frame),
        length-drop d.start frame,
        length-drop d.end frame,
        within,
        ordered,
      )

  after_link : drop d.end damaged ≡ drop d.end frame
  after_link =
      let long : length (take d.start frame ++ d.other) ≡ d.end = omega (arith, length-append (take d.start frame) d.other, front_long, other_long) in
      ap (drop d.end) (d.damaged_is ∙ sym (append_assoc (take d.start frame) d.other (drop d.end frame)))
      ∙ ap (λ n. drop n ((take d.start frame ++ d.other) ++ drop d.end frame)) (sym long)
      ∙ drop_at (take d.start frame ++ d.other) (drop d.end frame) (length (take d.start frame ++ d.other)) refl

  later : (x : ℕ) → d.end ≤ x → drop x damaged ≡ drop x frame
  later x far =
      let at : d.end + (x - d.end) ≡ x = omega (arith, far) in
      ap (λ n. drop n damaged) (sym at) ∙ sym (drop-drop (x - d.end) d.end damaged) ∙ ap (drop (x - d.end)) after_link ∙ drop-drop (x - d.end) d.end frame
      ∙ ap (λ n. drop n frame) at

  later_end : (e : ℕ) → IsEnd frame e → d.end ≤ e → IsEnd damaged e
  later_end e last far = subst (IsEnd damaged) (sym (frame_length frame damaged d)) last
  later_end e (before {q = q} r cut) far =
      let step : e + size_before frame q + 8 ≡ q = cut in
      let same : size_before damaged q ≡ size_before frame q = ap (λ z. big_number 3 (take (q - (q - 8)) z)) (later (q - 8) (omega (arith, step, far))) in
      let there : e + size_before damaged q + 8 ≡ q = omega (arith, step, same) in
      before (later_end q r (omega (arith, step, far))) there

  damaged_link : IsLinkOf damaged d.start d.end
  damaged_link = record {
    is_end = later_end d.end d.link.is_end (omega arith);
    cut = (let step : d.start + size_before frame d.end + 8 ≡ d.end = d.link.cut in omega (arith, step, d.size));
  }

  link_is : slice_range damaged d.start d.end ≡ d.other
  link_is =
      let many : d.end - d.start ≡ length d.other = omega (arith, other_long) in
      let rest : drop d.start damaged ≡ d.other ++ drop d.end frame =
      ap (drop d.start) d.damaged_is ∙ ap (λ n. drop n (take d.start frame ++ (d.other ++ drop d.end frame))) (sym front_long)
      ∙ drop_at (take d.start frame) (d.other ++ drop d.end frame) (length (take d.start frame)) refl in
      ap (λ z. take (d.end - d.start) z) rest ∙ ap (λ n. take n (d.other ++ drop d.end frame)) many ∙ take_at d.other (drop d.end frame) (length d.other) refl

  pub frame_same : AreBytes frame → AreBytes damaged → (v w : Verdict) → IsVerdictOf frame v → is_undamaged v ≡ true → IsVerdictOf damaged w → is_undamaged w ≡ true
      → frame ≡ damaged
  frame_same bytes others v w is right other other_right =
      let link_bytes : AreBytes (slice_range frame d.start d.end) = AreBytes-take (d.end - d.start) (drop d.start frame) (AreBytes-drop d.start frame bytes) in
      let other_bytes : AreBytes d.other = subst AreBytes link_is (AreBytes-take (d.end - d.start) (drop d.start damaged) (AreBytes-drop d.start damaged others)) in
      let passes = all_pass frame v d.start d.end is right d.link in
      let other_passes : PassesParity d.other = subst PassesParity link_is (all_pass damaged w d.start d.end other other_right damaged_link) in
      let same = burst (slice_range frame d.start d.end) d.other d.place link_bytes other_bytes d.within passes other_passes in
      sym (take-append-drop d.start frame) ∙ ap (λ z. take d.start frame ++ z) (drop_split frame d.start d.end (omega (arith, ordered)))
      ∙ ap (λ z. take d.start frame ++ (z ++ drop d.end frame)) same ∙ sym d.damaged_is
