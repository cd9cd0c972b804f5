-- Where a word is refused no row is spelled, and one word of one sample is refused.
use Rattle.std.proofs.Common.{◌≡◌, ℕ, suc, ◌+◌, ◌-◌, ◌<◌, ◌≤◌, Bool, true, false, not, List, [], ◌∷◌, ◌++◌, refl, sym, ap, ◌∙◌, subst, arith, append_assoc, ⊎_elim, ℤ, nat_abs}
use Rattle.std.proofs.lemmas.Bool.{cases_lt, not-true}
use Rattle.ffv1_rice.specs.States.{IsDifference, IsCodedDepth}
use Rattle.ffv1_rice.specs.Codes.{SpellsValue, IsCodeFault}
use Rattle.ffv1_rice.specs.Runs.{SpellsRun, whole_length, IsShortWord}
use Rattle.ffv1_rice.specs.declared.code.CodeFault.{CodeFault}
use Rattle.ffv1_rice.proofs.Faults.{no_code_at_fault, one_fault}
use Rattle.ffv1_rice.proofs.OneRun.{no_run_when_cut}
use Rattle.ffv1_plane.specs.Spelling.{Residuals, is_in_run, is_skipped, is_coded, follows_skipped, starts_run, left_in_line, run_length, value_at, context_number, state_before, SamplesSpell}
use Rattle.ffv1_plane.specs.Stuck.{SpellsFront, no_word, one_word, IsCodeDue, IsRunWordShort, IsCodeRefused, IsWordRefused}
use Rattle.ffv1_plane.proofs.Alike.{residuals, Alike, in_run_alike, follows_alike, contexts_to, states_alike, runs_alike, skipped_alike, one_reading, nonzero_of, not_both}
use Rattle.ffv1_plane.proofs.Prefixes.{prefix_spells}
use Rattle.ffv1_plane.proofs.Runs.{after_whole}

-- ---- words of a run

-- first words with a cut word after them begin no run
front_no_run : {skipped i next : ℕ} {words : List Bool} (n left last : ℕ) (others run tail : List Bool) → SpellsFront skipped i words next → skipped < left
    → IsShortWord next others → SpellsRun n left i run last → words ++ others ≡ run ++ tail → ⊥
front_no_run {i = i} {next = next} n left last others run tail (no_word a b c) inside cut spells same =
    let P : ℕ → Type 0 = λ k. IsShortWord k others in
    no_run_when_cut.no_run n left i last others run tail (omega (arith, inside)) (subst P c cut) spells (ap (λ l. l ++ others) (sym b) ∙ same)
front_no_run {i = i} n left last others run tail (one_word m more a b c) inside cut spells same =
    let joined : run ++ tail ≡ true ∷ (more ++ others) = sym same ∙ ap (λ l. l ++ others) b in
    let later = after_whole left i n last (whole_length i) run tail (more ++ others) spells refl (omega (arith, a, inside)) joined in
    front_no_run later.0 (left - whole_length i) last others later.1 tail c (omega (arith, a, inside)) cut later.2 later.3

no_cut_one : (i : ℕ) (bits others : List Bool) → bits ≡ true ∷ others → IsShortWord i bits → ⊥
no_cut_one i [] others is cut = cc
no_cut_one i (true ∷ bits) others is cut = cut
no_cut_one i (false ∷ bits) others is cut = cc

-- bits with a cut word after first words begin with them alone
front_one : {skipped also i next last : ℕ} {words more : List Bool} (others tail : List Bool) → SpellsFront skipped i words next
    → SpellsFront also i more last → IsShortWord next others → IsShortWord last tail → words ++ others ≡ more ++ tail → skipped ≡ also
front_one others tail (no_word a b c) (no_word p q r) cut cut_too same = a ∙ sym p
front_one others tail (no_word a b c) (one_word m rest p q r) cut cut_too same =
    absurd (no_cut_one _ others (rest ++ tail) (ap (λ l. l ++ others) (sym b) ∙ same ∙ ap (λ l. l ++ tail) q) cut)
front_one others tail (one_word m rest a b c) (no_word p q r) cut cut_too same =
    absurd (no_cut_one _ tail (rest ++ others) (ap (λ l. l ++ tail) (sym q) ∙ sym same ∙ ap (λ l. l ++ others) b) cut_too)
front_one {i = i} others tail (one_word m rest a b c) (one_word k more p q r) cut cut_too same =
    let joined : true ∷ (rest ++ others) ≡ true ∷ (more ++ tail) = ap (λ l. l ++ others) (sym b) ∙ same ∙ ap (λ l. l ++ tail) q in
    let one : m ≡ k = front_one others tail c r cut cut_too (let later : rest ++ others ≡ more ++ tail = cc in later) in
    a ∙ ap (λ j. whole_length i + j) one ∙ sym p

-- ---- against another spelling

-- A spelling that has been read past the run of sample s: the bits before s, the run that starts there, if one does, and
-- what stands after it.
pub record IsPastRun (earlier : ℕ → List ℤ) (r : Residuals) (first s : ℕ) (bits : List Bool) : Type 0 where
  pub before : List Bool
  pub index : ℕ
  pub spells : SamplesSpell earlier r first s before index
  pub run : List Bool
  pub next : ℕ
  pub run_starts : starts_run r s ≡ true → SpellsRun (run_length r s) (left_in_line r s) index run next
  pub no_run_starts : starts_run r s ≡ false → (run ≡ []) × (next ≡ index)
  pub later : List Bool
  pub joined : bits ≡ before ++ (run ++ later)

pub record IsPastCode (earlier : ℕ → List ℤ) (r : Residuals) (first s : ℕ) (bits : List Bool) : Type 0 where
  pub past : IsPastRun earlier r first s bits
  pub code : List Bool
  pub tail : List Bool
  pub coded : is_coded r s ≡ true → SpellsValue r.depth (state_before earlier r (context_number r s) s) (value_at r s) code
  pub joined : past.later ≡ code ++ tail

-- a longer spelling has been
pub past_code : (earlier : ℕ → List ℤ) (r : Residuals) (first s count last : ℕ) (bits front tail : List Bool) → s < count
    → SamplesSpell earlier r first count front last → bits ≡ front ++ tail → IsPastCode earlier r first s bits
unfolding SamplesSpell
past_code earlier r first s count last bits front tail inside spells same =
    let p = prefix_spells earlier r first (suc s) count front last (omega arith) spells in
    let h = p.4 in
    let portion = h.5 in
    record {
      past = record {
        before = h.0;
        index = h.2;
        spells = h.4;
        run = portion.run;
        next = p.2;
        run_starts = portion.run_starts;
        no_run_starts = portion.no_run_starts;
        later = portion.code ++ (p.1 ++ tail);
        joined =
            same ∙ ap (λ l. l ++ tail) p.3 ∙ append_assoc p.0 p.1 tail ∙ ap (λ l. l ++ (p.1 ++ tail)) h.3 ∙ append_assoc h.0 h.1 (p.1 ++ tail)
            ∙ ap (λ l. h.0 ++ (l ++ (p.1 ++ tail))) portion.joined ∙ ap (λ l. h.0 ++ l) (append_assoc portion.run portion.code (p.1 ++ tail));
      };
      code = portion.code;
      tail = p.1 ++ tail;
      coded = portion.coded;
      joined = refl;
    }

-- a code that is due stands after its run
abbrev pub past_due : (earlier : ℕ → List ℤ) (r : Residuals) (first s : ℕ) (part others bits : List Bool) → IsCodeDue earlier r first s part → bits ≡ part ++ others
    → IsPastRun earlier r first s bits
past_due earlier r first s part others bits due same = record {
  before = due.before;
  index = due.index;
  spells = due.spells;
  run = due.run;
  next = due.next;
  run_starts = due.run_starts;
  no_run_starts = due.no_run_starts;
  later = others;
  joined = same ∙ ap (λ l. l ++ others) due.joined ∙ append_assoc due.before due.run others;
}

module _ (earlier : ℕ → List ℤ) (depth w first : ℕ) (c e d f : ℕ → ℤ) (deep : IsCodedDepth depth)
    (range : (j : ℕ) → IsDifference depth (d j)) (also : (j : ℕ) → IsDifference depth (f j))
    (determined : (n : ℕ) → ((j : ℕ) → j < n → d j ≡ f j) → c n ≡ e n) where
  -- two that are read past the run of a sample are alike there
  record BothPast (s : ℕ) (later after : List Bool) : Type 0 where
    alike : Alike depth w c e d f s
    in_run : is_in_run (residuals depth w c d) s ≡ is_in_run (residuals depth w e f) s
    skipped : is_skipped (residuals depth w c d) s ≡ is_skipped (residuals depth w e f) s
    state : state_before earlier (residuals depth w c d) (context_number (residuals depth w c d) s) s ≡ state_before earlier (residuals depth w e f)
        (context_number (residuals depth w e f) s) s
    same : later ≡ after

  both_past : (s : ℕ) (bits : List Bool) → s < w → (a : IsPastRun earlier (residuals depth w c d) first s bits) → (b : IsPastRun earlier (residuals depth w e f) first s bits)
      → BothPast s a.later b.later
  both_past s bits inside a b =
      let read = one_reading earlier depth w c e d f deep range also determined first s a.before b.before (a.run ++ a.later)
      (b.run ++ b.later) a.index b.index (omega arith) a.spells b.spells (sym a.joined ∙ b.joined) in
      let after = runs_alike earlier depth w c e d f deep range also determined s a.index b.index a.next b.next a.run b.run a.later b.later read.0 read.1 read.2
      a.run_starts a.no_run_starts b.run_starts b.no_run_starts in
      let differences = read.0.differences in
      let context : c s ≡ e s = determined s differences in
      record {
        alike = read.0;
        in_run = in_run_alike depth w c e d f s (contexts_to earlier depth w c e d f deep range also determined s differences) differences;
        skipped = skipped_alike earlier depth w c e d f deep range also determined s a.next b.next a.later b.later inside read.0 after;
        state = states_alike earlier depth w c e d f deep range also determined s (nat_abs (c s)) differences
            ∙ ap (λ z. state_before earlier (residuals depth w e f) (nat_abs z) s) context;
        same = after.later;
      }

  -- a refused code excludes a spelling that has one there
  pub code_excludes : (s : ℕ) (part others bits : List Bool) (fault : CodeFault) → s < w → IsCodeRefused earlier (residuals depth w c d) first s part others fault
      → bits ≡ part ++ others → IsPastCode earlier (residuals depth w e f) first s bits → ⊥
  code_excludes s part others bits fault inside refused begins past =
      let r = residuals depth w c d in
      let q = residuals depth w e f in
      let both = both_past s bits inside (past_due earlier r first s part others bits refused.0 begins) past.past in
      let coded : is_coded q s ≡ true = ap not (sym both.skipped) ∙ refused.0.coded in
      let no_skip : is_skipped q s ≡ false = sym both.skipped ∙ (let h = refused.0.coded in not-true (is_skipped r s) h) in
      no_code_at_fault depth (state_before earlier q (context_number q s) s) (is_in_run q s) fault (f s) others past.code past.tail deep
      (subst (λ (z : _). IsCodeFault depth z (is_in_run q s) others fault) both.state
      (subst (λ (l : Bool). IsCodeFault depth (state_before earlier r (context_number r s) s) l others fault) both.in_run refused.1))
      (also s, λ t. nonzero_of (f s) (not_both (is_in_run q s) _ t no_skip)) (past.coded coded) (both.same ∙ past.joined)

  -- two codes that are refused at one sample are so for one fault
  pub code_one : (s : ℕ) (part others more tail : List Bool) (fault other : CodeFault) → s < w → IsCodeRefused earlier (residuals depth w c d) first s part others fault
      → IsCodeRefused earlier (residuals depth w e f) first s more tail other → part ++ others ≡ more ++ tail → fault ≡ other
  code_one s part others more tail fault other inside a b same =
      let r = residuals depth w c d in
      let q = residuals depth w e f in
      let both = both_past s (part ++ others) inside (past_due earlier r first s part others (part ++ others) a.0 refl)
      (past_due earlier q first s more tail (part ++ others) b.0 same) in
      one_fault depth (state_before earlier q (context_number q s) s) (is_in_run q s) tail fault other deep
      (subst (λ (l : List Bool). IsCodeFault depth (state_before earlier q (context_number q s) s) (is_in_run q s) l fault) both.same
      (subst (λ (z : _). IsCodeFault depth z (is_in_run q s) others fault) both.state
      (subst (λ (l : Bool). IsCodeFault depth (state_before earlier r (context_number r s) s) l others fault) both.in_run a.1)))
      b.1

  -- a cut word of a run excludes a spelling that is past that run
  pub run_excludes : (s : ℕ) (part others bits : List Bool) → (cut : IsRunWordShort earlier (residuals depth w c d) first s part others) → bits ≡ part ++ others
      → IsPastRun earlier (residuals depth w e f) first cut.1.start bits → ⊥
  run_excludes s part others bits cut begins past =
      let due = cut.1 in
      let joined : due.before ++ (due.words ++ others) ≡ past.before ++ (past.run ++ past.later) = sym (append_assoc due.before due.words others)
      ∙ ap (λ l. l ++ others) (sym due.joined) ∙ sym begins ∙ past.joined in
      let read = one_reading earlier depth w c e d f deep range also determined first due.start due.before past.before (due.words ++ others)
      (past.run ++ past.later) due.begun past.index (let inside = due.in_line in omega arith) due.spells past.spells joined in
      let differences = read.0.differences in
      let contexts = contexts_to earlier depth w c e d f deep range also determined due.start differences in
      let runs : is_in_run (residuals depth w c d) due.start ≡ is_in_run (residuals depth w e f) due.start = in_run_alike depth w c e d f due.start contexts differences in
      let follows : follows_skipped (residuals depth w c d) due.start ≡ follows_skipped (residuals depth w e f) due.start =
      follows_alike depth w c e d f due.start contexts differences in
      let starts : starts_run (residuals depth w c d) due.start ≡ starts_run (residuals depth w e f) due.start = rw (runs, follows) refl in
      let spelled = past.run_starts (sym starts ∙ due.starts) in
      let P : ℕ → Type 0 = λ i. SpellsRun (run_length (residuals depth w e f) due.start) (left_in_line (residuals depth w e f) due.start) i past.run past.next in
      front_no_run (run_length (residuals depth w e f) due.start) (left_in_line (residuals depth w e f) due.start) past.next others past.run past.later due.front
      due.in_line cut.2 (subst P (sym read.1) spelled) read.2

  -- two cut words of a run that starts at one sample are one
  pub run_one : (s t : ℕ) (part others more tail : List Bool) → (a : IsRunWordShort earlier (residuals depth w c d) first s part others)
      → (b : IsRunWordShort earlier (residuals depth w e f) first t more tail) → a.1.start ≡ b.1.start → part ++ others ≡ more ++ tail → s ≡ t
  run_one s t part others more tail a b start same =
      let p = a.1 in
      let q = b.1 in
      let joined : p.before ++ (p.words ++ others) ≡ q.before ++ (q.words ++ tail) =
      sym (append_assoc p.before p.words others) ∙ ap (λ l. l ++ others) (sym p.joined) ∙ same ∙ ap (λ l. l ++ tail) q.joined
      ∙ append_assoc q.before q.words tail in
      let there : SamplesSpell earlier (residuals depth w e f) first p.start q.before q.begun =
      subst (λ (k : ℕ). SamplesSpell earlier (residuals depth w e f) first k q.before q.begun) (sym start) q.spells in
      let read = one_reading earlier depth w c e d f deep range also determined first p.start p.before q.before (p.words ++ others)
      (q.words ++ tail) p.begun q.begun (let inside = p.in_line in omega arith) p.spells there joined in
      let front : SpellsFront p.skipped q.begun p.words a.0 = subst (λ (i : ℕ). SpellsFront p.skipped i p.words a.0) read.1 p.front in
      let one : p.skipped ≡ q.skipped = front_one others tail front q.front a.2 b.2 read.2 in
      p.place ∙ ap (λ k. k + p.skipped) start ∙ ap (λ k. q.start + k) one ∙ sym q.place

-- ---- both ways

pub record IsOneWord (s t : ℕ) (fault other : CodeFault) : Type 0 where
  pub sample : s ≡ t
  pub fault_same : fault ≡ other

module _ (earlier : ℕ → List ℤ) (depth w first : ℕ) (c e d f : ℕ → ℤ) (deep : IsCodedDepth depth)
    (range : (j : ℕ) → IsDifference depth (d j)) (also : (j : ℕ) → IsDifference depth (f j))
    (determined : (n : ℕ) → ((j : ℕ) → j < n → d j ≡ f j) → c n ≡ e n) where
  -- a refused word excludes a spelling of more samples
  pub refused_excludes : (s count last : ℕ) (part others front tail : List Bool) (fault : CodeFault) → s < count → count ≤ w
      → IsWordRefused earlier (residuals depth w c d) first s part others fault → SamplesSpell earlier (residuals depth w e f) first count front last
      → part ++ others ≡ front ++ tail → ⊥
  refused_excludes s count last part others front tail fault inside fits refused spells same = ⊎_elim
      (λ cut.
      let due = cut.1.1 in
      run_excludes earlier depth w first c e d f deep range also determined s part others (part ++ others) cut.1 refl
      ((past_code earlier (residuals depth w e f) first due.start count last (part ++ others) front tail (omega (arith, due.place)) spells same).past))
      (λ code. code_excludes earlier depth w first c e d f deep range also determined s part others (part ++ others) fault (omega arith) code refl
      (past_code earlier (residuals depth w e f) first s count last (part ++ others) front tail inside spells same))
      refused

  back : (n : ℕ) → ((j : ℕ) → j < n → f j ≡ d j) → e n ≡ c n
  back n alike = sym (determined n (λ j h. sym (alike j h)))

  -- a cut word of a run and a refused code are not in one content
  pub run_or_code : (s t : ℕ) (part others more tail : List Bool) (other : CodeFault) → t < w → IsRunWordShort earlier (residuals depth w c d) first s part others
      → IsCodeRefused earlier (residuals depth w e f) first t more tail other → part ++ others ≡ more ++ tail → ⊥
  run_or_code s t part others more tail other inside cut code same =
      let due = cut.1 in
      let q = residuals depth w e f in
      ⊎_elim
      (λ less. run_excludes earlier depth w first c e d f deep range also determined s part others (part ++ others) cut refl
      ((past_code earlier q first due.start t code.0.index (part ++ others) code.0.before (code.0.run ++ tail) less code.0.spells
      (same ∙ ap (λ l. l ++ tail) code.0.joined ∙ append_assoc code.0.before code.0.run tail)).past))
      (λ more_or. ⊎_elim
      (λ past. code_excludes earlier depth w first e c f d deep also range back t more tail (part ++ others) other inside code same
      (past_code earlier (residuals depth w c d) first t due.start due.begun (part ++ others) due.before (due.words ++ others) past due.spells
      (ap (λ l. l ++ others) due.joined ∙ append_assoc due.before due.words others)))
      (λ most.
      let there : t ≡ due.start = omega arith in
      run_excludes earlier depth w first c e d f deep range also determined s part others (part ++ others) cut refl
      (subst (λ (k : ℕ). IsPastRun earlier q first k (part ++ others)) there (past_due earlier q first t more tail (part ++ others) code.0 same)))
      (cases_lt t due.start))
      (cases_lt due.start t)

module _ (earlier : ℕ → List ℤ) (depth w first : ℕ) (c e d f : ℕ → ℤ) (deep : IsCodedDepth depth)
    (range : (j : ℕ) → IsDifference depth (d j)) (also : (j : ℕ) → IsDifference depth (f j))
    (determined : (n : ℕ) → ((j : ℕ) → j < n → d j ≡ f j) → c n ≡ e n) where
  turned : (n : ℕ) → ((j : ℕ) → j < n → f j ≡ d j) → e n ≡ c n
  turned n alike = sym (determined n (λ j h. sym (alike j h)))

  run_run : (s t : ℕ) (part others more tail : List Bool) → (a : IsRunWordShort earlier (residuals depth w c d) first s part others)
      → (b : IsRunWordShort earlier (residuals depth w e f) first t more tail) → part ++ others ≡ more ++ tail → s ≡ t
  run_run s t part others more tail a b same =
      let p = a.1 in
      let q = b.1 in
      ⊎_elim
      (λ less. absurd (run_excludes earlier depth w first c e d f deep range also determined s part others (part ++ others) a refl
      ((past_code earlier (residuals depth w e f) first p.start q.start q.begun (part ++ others) q.before (q.words ++ tail) less q.spells
      (same ∙ ap (λ l. l ++ tail) q.joined ∙ append_assoc q.before q.words tail)).past)))
      (λ more_or. ⊎_elim
      (λ past. absurd (run_excludes earlier depth w first e c f d deep also range turned t more tail (part ++ others) b same
      ((past_code earlier (residuals depth w c d) first q.start p.start p.begun (part ++ others) p.before (p.words ++ others) past p.spells
      (ap (λ l. l ++ others) p.joined ∙ append_assoc p.before p.words others)).past)))
      (λ most. run_one earlier depth w first c e d f deep range also determined s t part others more tail a b (omega arith) same)
      (cases_lt q.start p.start))
      (cases_lt p.start q.start)

  code_code : (s t : ℕ) (part others more tail : List Bool) (fault other : CodeFault) → s < w → t < w → IsCodeRefused earlier (residuals depth w c d) first s part others fault
      → IsCodeRefused earlier (residuals depth w e f) first t more tail other → part ++ others ≡ more ++ tail → IsOneWord s t fault other
  code_code s t part others more tail fault other inside there a b same = ⊎_elim
      (λ less. absurd (code_excludes earlier depth w first c e d f deep range also determined s part others (part ++ others) fault inside a refl
      (past_code earlier (residuals depth w e f) first s t b.0.index (part ++ others) b.0.before (b.0.run ++ tail) less b.0.spells
      (same ∙ ap (λ l. l ++ tail) b.0.joined ∙ append_assoc b.0.before b.0.run tail))))
      (λ more_or. ⊎_elim
      (λ past. absurd (code_excludes earlier depth w first e c f d deep also range turned t more tail (part ++ others) other there b same
      (past_code earlier (residuals depth w c d) first t s a.0.index (part ++ others) a.0.before (a.0.run ++ others) past a.0.spells
      (ap (λ l. l ++ others) a.0.joined ∙ append_assoc a.0.before a.0.run others))))
      (λ most.
      let same_column : t ≡ s = omega arith in
      let b' : IsCodeRefused earlier (residuals depth w e f) first s more tail other =
      subst (λ (k : ℕ). IsCodeRefused earlier (residuals depth w e f) first k more tail other) same_column b in
      record { sample = sym same_column; fault_same = code_one earlier depth w first c e d f deep range also determined s part others more tail fault other inside a b' same })
      (cases_lt t s))
      (cases_lt s t)

  -- one word is refused
  pub refused_one : (s t : ℕ) (part others more tail : List Bool) (fault other : CodeFault) → s < w → t < w → IsWordRefused earlier (residuals depth w c d) first s part others fault
      → IsWordRefused earlier (residuals depth w e f) first t more tail other
      → part ++ others ≡ more ++ tail → IsOneWord s t fault other
  refused_one s t part others more tail fault other inside there a b same = ⊎_elim
      (λ cut. ⊎_elim
      (λ cut_too. record { sample = run_run s t part others more tail cut.1 cut_too.1 same; fault_same = cut.0 ∙ sym cut_too.0 })
      (λ code. absurd (run_or_code earlier depth w first c e d f deep range also determined s t part others more tail other there cut.1 code same))
      b)
      (λ code. ⊎_elim
      (λ cut. absurd (run_or_code earlier depth w first e c f d deep also range turned t s more tail part others fault inside cut.1 code (sym same)))
      (λ code_too. code_code s t part others more tail fault other inside there code code_too same)
      b)
      a
