-- Where the versions cover an original, and what the parts give is right, the improved versions have it among their combinations.
use Rattle.std.proofs.Common.{◌≡◌, ℕ, ◌+◌, ◌-◌, ◌<◌, ◌≤◌, true, List, [], ◌∷◌, length, get_or, sym, ap, ◌∙◌, subst, arith, refl, inl, inr}
use Rattle.std.specs.Prelude.{◌⊎◌, All, Contains}
use Rattle.std.proofs.lemmas.Bool.{cases_lt}
use Rattle.std.proofs.lemmas.List.Elements.{All-head, All-tail, Contains-get_or}
use Rattle.ffv1_weave.specs.Parts.{written}
use Rattle.ffv1_weave.specs.Regions.{HaveLength, AgreeAt}
use Rattle.ffv1_slice.specs.Members.{IsOfTwo}
use Rattle.ffv1_weave.specs.Checks.{CanWeave}
use Rattle.ffv1_weave.specs.Combinations.{IsCombination, IsAmongTried, HasFewByByte, IsValid}
use Rattle.ffv1_weave.specs.Weave.{Weave, IsWeaveOf, AreMany}
use Rattle.ffv1_weave.specs.Weave.Weave.{woven, missing}
use Rattle.ffv1_weave.specs.declared.check.Check.{Check}
use Rattle.ffv1_weave.specs.declared.check.Check.TheVariants as checks
use Rattle.ffv1_weave.specs.declared.check.Check.TheVariants.{Element}
use Rattle.ffv1_weave.specs.Laws.{IsCoveredByRegions, HasEachByte}
use Rattle.ffv1_weave.specs.Laws as weave_laws
use Rattle.ffv1_weave.proofs.Agreeing.{agree_past}
use Rattle.ffv1_weave.proofs.FewByByte.{IsPlacewise, few_changed}
use Rattle.ffv1_weave.proofs.AmongTried.{regions_combine, are_among_tried, original_is_woven}
use Rattle.ffv1_weave.proofs.Choices.{length-written, written_before, written_inside, written_after, same_range, range_at}
use Rattle.ffv1_splice.specs.Splice.{SplicedValue}
use Rattle.ffv1_splice.proofs.WovenLaws.{given_back_is_original}
use Rattle.ffv1_weave.proofs.Mapped.{mapped_there, mapped_of}
use Rattle.ffv1_mend.specs.Improved.{PartValue, IsWithin, IsRight, Patch, patched, given_patches, improved, fallback}
use Rattle.ffv1_mend.specs.Inner.Improved.{AreFitting}
use Rattle.ffv1_mend.specs.Mended.{MendedValue, IsNotWoven, StandsBy, FrameStands, IsElementMend, IsMendOf, is_good}
use Rattle.ffv1_mend.specs.Laws.{IsOriginalBy, MendKeepsOriginal, HasOriginal, OriginalIsMended}
use Rattle.ffv1_mend.specs.declared.kind.Kind.{Kind}
use Rattle.ffv1_mend.specs.declared.kind.Kind.TheVariants.{Frame, Crc32, Record, Flac, Plain}
use Rattle.ffv1_mend.specs.declared.part.Part.{Part}
use Rattle.ffv1_mend.specs.declared.state.State.{State}
use Rattle.ffv1_mend.specs.declared.state.State.TheVariants.{Whole, Disputed, Woven, Missing, Alone, Agreed, Open}
use Rattle.ffv1_mend.proofs.Fitting.{Fits, length-patched, given_fit, parts_fit}
use Rattle.ffv1_mend.proofs.Vouched.{good_given, only_version}
use Rattle.ffv1_weave.proofs.WiderRegions.{region_around}

module _ (original : List ℕ) where
  -- At each place all bytes of this length keep what they have, or all get the original's.
  patched_at : (patches : List Patch) → All (Fits (length original)) patches → All (IsRight original) patches → (i : ℕ)
      → ((bytes : List ℕ) → length bytes ≡ length original → get_or (patched bytes patches) i 0 ≡ get_or bytes i 0)
      ⊎ ((bytes : List ℕ) → length bytes ≡ length original → get_or (patched bytes patches) i 0 ≡ get_or original i 0)
  patched_at [] fit right i = inl (λ bytes long. refl)
  patched_at (patch ∷ patches) fit right i =
      let start : ℕ = patch.start in
      let piece : List ℕ = patch.bytes in
      let here : patch.start + length patch.bytes ≤ length original = All-head (Fits (length original)) patch patches fit in
      let is : IsRight original patch = All-head (IsRight original) patch patches right in
      let size = λ (bytes : List ℕ) (long : length bytes ≡ length original). length-written bytes start piece (omega arith) ∙ long in
      elim (patched_at patches (All-tail (Fits (length original)) patch patches fit) (All-tail (IsRight original) patch patches right) i) [
        | inr all ↦ inr (λ bytes long. all (written bytes start piece) (size bytes long))
        | inl same ↦ elim (cases_lt i patch.start) [
          | inl before ↦ inl (λ bytes long. same (written bytes start piece) (size bytes long) ∙ written_before bytes start piece (omega arith) i before)
          | inr low ↦ elim (cases_lt i (patch.start + length patch.bytes)) [
            | inl inside ↦ inr (λ bytes long. same (written bytes start piece) (size bytes long) ∙ written_inside bytes start piece (omega arith) i low inside
                ∙ ap (λ z. get_or z (i - start) 0) is ∙ range_at original start (start + length piece) i low inside)
            | inr after ↦ inl (λ bytes long. same (written bytes start piece) (size bytes long) ∙ written_after bytes start piece (omega arith) i after)
          ]
        ]
      ]

module _ (original : List ℕ) (versions : List (List ℕ)) (parts : List Part) (mends : List PartValue)
    (one_length : HaveLength versions (length original)) (fit : AreFitting (length original) parts mends) (right : All (IsRight original) (given_patches parts mends)) where
  better : List ℕ → List ℕ
  better version = patched version (given_patches parts mends)

  at : (i : ℕ) → ((bytes : List ℕ) → length bytes ≡ length original → get_or (patched bytes (given_patches parts mends)) i 0 ≡ get_or bytes i 0)
      ⊎ ((bytes : List ℕ) → length bytes ≡ length original → get_or (patched bytes (given_patches parts mends)) i 0 ≡ get_or original i 0)
  at i = patched_at original (given_patches parts mends) (given_fit (length original) parts mends fit) right i

  of : (one : List ℕ) → Contains (improved versions parts mends) one
      → (version : List ℕ) × Contains versions version × (one ≡ patched version (given_patches parts mends))
  of one there = mapped_of (λ version. patched version (given_patches parts mends)) versions one there

  long : (version : List ℕ) → Contains versions version → length (patched version (given_patches parts mends)) ≡ length original
  long version there =
      length-patched (length original) (given_patches parts mends) version (one_length version there)
      (given_fit (length original) parts mends fit)

  -- where the versions agree, the improved ones do
  agree_on : (i : ℕ) → AgreeAt versions i → AgreeAt (improved versions parts mends) i
  agree_on i agree one other there here =
      let a = of one there in
      let b = of other here in
      let first = ap (λ z. get_or z i 0) a.2 in
      let second = ap (λ z. get_or z i 0) b.2 in
      elim (at i) [
        | inl stays ↦ first ∙ stays a.0 (one_length a.0 a.1) ∙ agree a.0 b.0 a.1 b.1 ∙ sym (second ∙ stays b.0 (one_length b.0 b.1))
        | inr given ↦ first ∙ given a.0 (one_length a.0 a.1) ∙ sym (second ∙ given b.0 (one_length b.0 b.1))
      ]

  there_of : (version : List ℕ) → Contains versions version → Contains (improved versions parts mends) (patched version (given_patches parts mends))
  there_of version there = mapped_there (λ version. patched version (given_patches parts mends)) versions version there

  pub original_among : IsCoveredByRegions original versions → IsCombination (improved versions parts mends) original
  original_among covered =
      record {
        same_length = λ one there. let a = of one there in sym (ap length a.2 ∙ long a.0 a.1);
        agrees = λ i agree one there.
            let a = of one there in
            let first = ap (λ z. get_or z i 0) a.2 in
            elim (at i) [
              | inr given ↦ sym (first ∙ given a.0 (one_length a.0 a.1))
              | inl stays ↦
                  let same : AgreeAt versions i = λ v w in_v in_w. sym (stays v (one_length v in_v))
                  ∙ agree (patched v (given_patches parts mends)) (patched w (given_patches parts mends)) (there_of v in_v) (there_of w in_w)
                  ∙ stays w (one_length w in_w) in
                  sym (first ∙ stays a.0 (one_length a.0 a.1) ∙ covered.right i same a.0 a.1)
            ];
        parts = λ start end region.
            let wide = region_around versions (improved versions parts mends) (length original) start end one_length agree_on region in
            let intact = covered.intact wide.begin wide.last wide.region in
            let version : List ℕ = intact.0 in
            let low = wide.before in
            let high = wide.beyond in
            let size = long intact.0 intact.1 in
            let some = region.some in
            let inside : end ≤ length original = elim (cases_lt (end - 1) (length original)) [
              | inl below ↦ omega arith
              | inr past ↦ absurd (region.last (agree_past (improved versions parts mends) (length original) (end - 1)
                  (λ one there. let a = of one there in ap length a.2 ∙ long a.0 a.1) past))
            ] in (
              patched version (given_patches parts mends),
              there_of version intact.1,
              same_range original (patched version (given_patches parts mends)) start end (omega arith) (omega arith)
                  (λ i above below. elim (at i) [
                    | inr given ↦ sym (given version (one_length version intact.1))
                    | inl stays ↦ sym (stays version (one_length version intact.1)
                        ∙ sym (range_at version wide.begin wide.last i (omega arith) (omega arith))
                        ∙ ap (λ z. get_or z (i - wide.begin) 0) intact.2
                        ∙ range_at original wide.begin wide.last i (omega arith) (omega arith))
                  ]),
            );
      }

  pub improved_placewise : IsPlacewise (length original) (λ version. patched version (given_patches parts mends))
  improved_placewise =
      record {
        keeps = λ bytes same. length-patched (length original) (given_patches parts mends) bytes same (given_fit (length original) parts mends fit);
        at = λ i lt. elim (at i) [ inl stays ↦ inl stays | inr given ↦ inr (get_or original i 0, given) ];
      }

  pub improved_each_byte : HasEachByte original versions → HasEachByte original (improved versions parts mends)
  improved_each_byte has =
      record {
        one_length = λ one there. let a = of one there in ap length a.2 ∙ long a.0 a.1;
        intact = λ i lt.
            let version = has.intact i lt in (
              patched version.0 (given_patches parts mends),
              there_of version.0 version.1,
              elim (at i) [
                | inr given ↦ given version.0 (one_length version.0 version.1)
                | inl stays ↦ stays version.0 (one_length version.0 version.1) ∙ version.2
              ],
            );
      }

-- ---- an element whose parts were not looked at

patched_none : (version : List ℕ) (parts : List Part) → patched version (given_patches parts []) ≡ version
patched_none version [] = refl
patched_none version (part ∷ parts) = refl

improved_none : (versions : List (List ℕ)) (parts : List Part) → improved versions parts [] ≡ versions
improved_none [] parts = refl
improved_none (version ∷ versions) parts =
    let here : patched version (given_patches parts []) ≡ version = patched_none version parts in
    let rest : improved versions parts [] ≡ versions = improved_none versions parts in
    ap (λ v. v ∷ improved versions parts []) here ∙ ap (λ vs. version ∷ vs) rest

-- where no part was looked at, the versions are as they were given; else what the parts give fits
improved_or_given : (original : List ℕ) (versions : List (List ℕ)) (from : List ℕ) (parts : List Part) (mended : MendedValue)
    → IsElementMend versions from parts mended → All (IsWithin (length original)) parts → 0 < length versions → HaveLength versions (length original)
    → (improved versions parts mended.parts ≡ versions) ⊎ AreFitting (length original) parts mended.parts
improved_or_given original versions from parts mended is within some one_length = elim is.mends [
  | inl all ↦ inl (ap (λ ss. improved versions parts ss) all.1 ∙ improved_none versions parts)
  | inr each ↦
      let first : List ℕ = get_or versions 0 [] in
      let there = Contains-get_or versions 0 [] some in
      inr (parts_fit versions (length original) one_length first there parts mended.parts within each.1)
]

-- ---- an original

module _ (check : Check) (original : List ℕ) (versions tried : List (List ℕ)) (taken bytes : List ℕ) (of : IsOriginalBy check original versions tried) where
  kept_weave : CanWeave check → (weave : Weave) → IsWeaveOf check tried weave → weave_laws.KeepsOriginal original weave
  kept_weave weaves weave h = original_is_woven check original tried weave of.passes (of.among weaves) h

  not_kept : CanWeave check → IsNotWoven check tried → AreMany tried ⊎ IsOfTwo (IsValid check tried)
  not_kept weaves (inl two) = inr two.0
  not_kept weaves (inr (inl none)) = absurd (kept_weave weaves (missing none.0) none.1)
  not_kept weaves (inr (inr many)) = inl many

  pub kept : (state : State) → StandsBy check versions tried taken bytes state → MendKeepsOriginal check original tried bytes state
  kept Whole h = of.alone bytes h.there.there h.there.passes
  kept Disputed h =
      h.0.differ (of.alone h.0.one h.0.one_there.there h.0.one_there.passes ∙ sym (of.alone h.0.other h.0.other_there.there h.0.other_there.passes))
  kept (Woven count) h = kept_weave h.1 (woven bytes count) h.2
  kept Missing h = λ weaves. not_kept weaves (h.1 weaves)
  kept Alone h = absurd h
  kept Agreed h = absurd h
  kept Open h = absurd h

good_kept : (check : Check) (original : List ℕ) (tried : List (List ℕ)) (bytes : List ℕ) (state : State)
    → MendKeepsOriginal check original tried bytes state → is_good state ≡ true → bytes ≡ original
good_kept check original tried bytes Whole h good = h
good_kept check original tried bytes (Woven count) h good = h
good_kept check original tried bytes Alone h good = h
good_kept check original tried bytes Agreed h good = h
good_kept check original tried bytes Missing h good = absurd (cc)
good_kept check original tried bytes Disputed h good = absurd h
good_kept check original tried bytes Open h good = h

-- a frame is not alone
frame_good : (splice : SplicedValue) (state : State) → FrameStands splice state → (is_good state ≡ true) ⊎ (state ≡ Alone) → is_good state ≡ true
frame_good splice state stands (inl good) = good
frame_good splice state stands (inr is_alone) = absurd (subst (FrameStands splice) is_alone stands)

-- nor are bytes with a checksum of their own, so where they are good, they are the original
checked_original : (check : Check) (original : List ℕ) (versions tried : List (List ℕ)) (taken bytes : List ℕ) (state : State)
    → IsOriginalBy check original versions tried → StandsBy check versions tried taken bytes state → (is_good state ≡ true) ⊎ (state ≡ Alone)
    → bytes ≡ original
checked_original check original versions tried taken bytes state of stands (inl good) =
    good_kept check original tried bytes state (kept check original versions tried taken bytes of state stands) good
checked_original check original versions tried taken bytes state of stands (inr is_alone) =
    absurd (subst (StandsBy check versions tried taken bytes) is_alone stands)

good_original : (kind : Kind) (original : List ℕ) (versions : List (List ℕ)) (from : List ℕ) (parts : List Part) (mended : MendedValue)
    → HasOriginal kind original versions parts mended → IsMendOf kind versions from parts mended
    → (is_good mended.state ≡ true) ⊎ (mended.state ≡ Alone) → mended.bytes ≡ original
good_original Frame original versions from parts mended of h reason =
    let good = frame_good h.splice mended.state h.stands reason in
    h.bytes ∙ (given_back_is_original original versions h.splice of.0 of.1 h.is_splice (good_given h.splice mended.state h.stands good)).1
good_original Crc32 original versions from parts mended of h reason =
    checked_original Element original versions (improved versions parts mended.parts) (fallback from parts mended.parts) mended.bytes mended.state of
    h.stands reason
good_original Record original versions from parts mended of h reason =
    checked_original checks.Record original versions versions from mended.bytes mended.state of h.stands reason
good_original Flac original versions from parts mended of h reason =
    checked_original checks.Flac original versions versions from mended.bytes mended.state of h.stands reason
good_original Plain original versions from parts mended of h reason =
    sym ((only_version versions from mended.bytes mended.state h.stands reason).others original of)

pub original_is_mended : OriginalIsMended
original_is_mended =
    record {
      original = good_original;
      kept = λ original versions from parts mended of is.
          kept Element original versions (improved versions parts mended.parts) (fallback from parts mended.parts) mended.bytes of mended.state is.stands;
      kept_by = λ check original versions from mended of is. kept check original versions versions from mended.bytes of mended.state is.stands;
      among = λ original versions parts mended covered. are_among_tried.covered original (improved versions parts mended.parts) covered;
      covered = λ original versions from parts mended is within some covered right.
          elim (improved_or_given original versions from parts mended is within some covered.one_length) [
            | inl same ↦ subst (λ vs. IsCombination vs original) (sym same) (regions_combine original versions covered)
            | inr fit ↦ original_among original versions parts mended.parts covered.one_length fit right covered
          ];
      each_byte = λ original versions from parts mended count is within some has right few.
          let first : Contains versions (get_or versions 0 []) = Contains-get_or versions 0 [] some in
          elim (improved_or_given original versions from parts mended is within some has.one_length) [
            | inl same ↦ subst (λ vs. IsAmongTried vs original) (sym same) (are_among_tried.each_byte original versions count has
                (elim few [ inl given ↦ given | inr better ↦ subst (λ vs. HasFewByByte vs count) same better ]))
            | inr fit ↦
                let improved_few : (more : ℕ) × HasFewByByte (improved versions parts mended.parts) more = elim few [
                  | inr better ↦ (count, better)
                  | inl given ↦ few_changed versions (length original) has.one_length (get_or versions 0 []) first
                      (λ version. patched version (given_patches parts mended.parts))
                      (improved_placewise original versions parts mended.parts has.one_length fit right) count given
                ] in
                are_among_tried.each_byte original (improved versions parts mended.parts) improved_few.0
                (improved_each_byte original versions parts mended.parts has.one_length fit right has) improved_few.1
          ];
    }
