-- No two faults are shown by beginnings of one input.
use Rattle.ffv1_hold.proofs.Common.{◌≡◌, ℕ, ◌<◌, ◌≤◌, ◌^◌, List, [], ◌∷◌, ◌++◌, length, get_or, Option, Some, None, refl, sym, ap, ◌∙◌, subst, inl, inr, arith, append_assoc, ◌⊎◌, record_limit, SetupFault, FirstRecordFault, Recordings, Bool, HasFileVersion, IsFileReel, IsMagic, recordings_of, HoldFileFault, Version, Reel, FileEntry, be4, magic, sized_record, head_text, body_text, entries_text, last_of, AreEntries, EntryShows, ReelShows, MagicShows, FileShows}
use Rattle.ffv1_hold.specs.declared.file_fault.HoldFileFault.TheVariants as faults
use Rattle.ffv1_hold.proofs.NumberTexts.{no_tag, rest_same, number_same, after_number}
use Rattle.ffv1_hold.proofs.BodyTexts.{same_body, body_one}
use Rattle.ffv1_hold.proofs.TextLaws.{short_reel, entries_after, none_after, AreFitting, fitting_all, same_sized, same_head, same_name, after_magic, head_parts, sized_parts}
use Rattle.ffv1_hold.proofs.FaultLaws.{last_from, last_of-none, AreValid, valid_list, entry_kinds, IsTagFault, not_of_entry, right_none, magic_none, reel_none}

module _ (v : Version) (r : Reel) where
  -- two faults of one tag
  tag_one : (last : Option FileEntry) (f g : HoldFileFault) (tag : ℕ) → IsTagFault v r last f tag → IsTagFault v r last g tag → f ≡ g
  tag_one last f g tag (inl a) (inl b) = a.0 ∙ sym b.0
  tag_one last f g tag (inl a) (inr b) = let over = a.1 in let end = b.1 in absurd (omega arith)
  tag_one last f g tag (inr a) (inl b) = let over = b.1 in let end = a.1 in absurd (omega arith)
  tag_one last f g tag (inr a) (inr b) = a.0 ∙ sym b.0

  -- two faults of one entry
  entry_one : (last : Option FileEntry) (f g : HoldFileFault) (s t y z : List ℕ) → s ++ y ≡ t ++ z → EntryShows v r last f s
      → EntryShows v r last g t → f ≡ g
  entry_one last f g s t y z same a b = elim (entry_kinds v r last f s a) [
    | inl x ↦ elim (entry_kinds v r last g t b) [
      | inl w ↦
          let tags : x.0 ≡ w.0 = ap (λ q. get_or q 0 0) (sym (ap (λ q. q ++ y) x.1) ∙ same ∙ ap (λ q. q ++ z) w.1) in
          tag_one last f g w.0 (subst (IsTagFault v r last f) tags x.2) w.2
      | inr w ↦ absurd (no_tag (w.0 ++ z) y 1 x.0 (sym (ap (λ q. q ++ z) w.1) ∙ sym same ∙ ap (λ q. q ++ y) x.1) (λ tag. not_of_entry v r last f x.0 x.2 tag))
    ]
    | inr x ↦ elim (entry_kinds v r last g t b) [
      | inl w ↦ absurd (no_tag (x.0 ++ y) z 1 w.0 (sym (ap (λ q. q ++ y) x.1) ∙ same ∙ ap (λ q. q ++ z) w.1) (λ tag. not_of_entry v r last g w.0 w.2 tag))
      | inr w ↦ body_one v r last f g x.0 w.0 y z (rest_same _ _ 1 1 (sym (ap (λ q. q ++ y) x.1) ∙ same ∙ ap (λ q. q ++ z) w.1)) x.2 w.2
    ]
  ]

  entries_one : (last : Option FileEntry) (fs gs : List FileEntry) → AreValid v r last fs → AreValid v r last gs → AreFitting v fs → AreFitting v gs
      → (f g : HoldFileFault) (s t y z : List ℕ) → (entries_text v fs ++ s) ++ y ≡ (entries_text v gs ++ t) ++ z
      → EntryShows v r (last_from last fs) f s → EntryShows v r (last_from last gs) g t → f ≡ g
  entries_one last [] [] a b c d f g s t y z same p q = grind (arith, entry_one, none_after)
  entries_one last [] (e ∷ gs) a b c d f g s t y z same p q =
      absurd (right_none v r last e ((entries_text v gs ++ t) ++ z) y b.0.0 d.0 b.0.1 b.0.2 f s
      (ap (λ w. 1 ∷ w) (sym (append_assoc (body_text v e) (entries_text v gs ++ t) z)) ∙ sym (ap (λ x. x ++ z) (entries_after v e gs t)) ∙ sym same
      ∙ ap (λ x. x ++ y) (none_after v s)) p)
  entries_one last (e ∷ fs) [] a b c d f g s t y z same p q =
      absurd (right_none v r last e ((entries_text v fs ++ s) ++ y) z a.0.0 c.0 a.0.1 a.0.2 g t
      (ap (λ w. 1 ∷ w) (sym (append_assoc (body_text v e) (entries_text v fs ++ s) y)) ∙ sym (ap (λ x. x ++ y) (entries_after v e fs s)) ∙ same
      ∙ ap (λ x. x ++ z) (none_after v t)) q)
  entries_one last (e ∷ fs) (h ∷ gs) a b c d f g s t y z same p q =
      let bodies = rest_same _ _ 1 1 (sym (ap (λ x. x ++ y) (entries_after v e fs s)) ∙ same ∙ ap (λ x. x ++ z) (entries_after v h gs t)) in
      let apart = sym (append_assoc (body_text v e) (entries_text v fs ++ s) y) ∙ bodies ∙ append_assoc (body_text v h) (entries_text v gs ++ t) z in
      let one = same_body v e h ((entries_text v fs ++ s) ++ y) ((entries_text v gs ++ t) ++ z) c.0 d.0 apart in
      cc (entries_one (Some h) fs gs (subst (λ (x : FileEntry). AreValid v r (Some x) fs) one.0 a.1) b.1 c.1 d.1 f g s t y z one.1 (subst (λ (x : FileEntry). EntryShows v r (last_from (Some x) fs) f s) one.0 p) q)

-- ---- the head

abbrev pub ShowsRecordLength : HoldFileFault → List ℕ → Type 0
ShowsRecordLength f s = (w h n : ℕ) × (f ≡ faults.TooLong) × (s ≡ be4 w ++ be4 h ++ be4 n) × (record_limit < n) × (n < 2 ^ 32)

-- the fault of a record that was read whole after a magic
abbrev pub IsRecordFault : Bool → HoldFileFault → List ℕ → ℕ → ℕ → Type 0
IsRecordFault p (faults.Setup f) config w h = FirstRecordFault (recordings_of p) config w h f
IsRecordFault p _ config w h = ⊥

abbrev pub ShowsRecord : Bool → HoldFileFault → List ℕ → Type 0
ShowsRecord p f s =
    (config : List ℕ) × (w h : ℕ) × (s ≡ sized_record config w h) × (length config ≤ record_limit) × (w < 2 ^ 32) × (h < 2 ^ 32) × IsRecordFault p f config w h

pub reel_kinds : (p : Bool) (f : HoldFileFault) (s : List ℕ) → ReelShows p f s → ShowsRecordLength f s ⊎ ShowsRecord p f s
reel_kinds p faults.TooLong s (w, h, n, split, over, small) = inl (w, h, n, refl, split, over, small)
reel_kinds p (faults.Setup k) s shown = inr shown
reel_kinds p _ s shown = absurd shown

setup_fault : (p : Bool) (f : HoldFileFault) (config : List ℕ) (w h : ℕ) → IsRecordFault p f config w h
    → (k : SetupFault) × (f ≡ faults.Setup k) × FirstRecordFault (recordings_of p) config w h k
setup_fault p (faults.Setup k) config w h is = (k, refl, is)
setup_fault p _ config w h is = absurd is

one_record_fault : (p : Bool) (f g : HoldFileFault) (config : List ℕ) (w h : ℕ) → IsRecordFault p f config w h → IsRecordFault p g config w h → f ≡ g
one_record_fault p f g config w h a b =
    let one = setup_fault p f config w h a in
    let other = setup_fault p g config w h b in
    let both = sym one.2 ∙ other.2 in cc

record_apart : (w h n : ℕ) (config : List ℕ) (v k : ℕ) (y z : List ℕ) → record_limit < n → n < 2 ^ 32 → length config ≤ record_limit
    → (be4 w ++ be4 h ++ be4 n) ++ y ≡ sized_record config v k ++ z → ⊥
record_apart w h n config v k y z over small fits same =
    let all = sym (append_assoc (be4 w) (be4 h) (be4 n ++ y)) ∙ sym (append_assoc (be4 w ++ be4 h) (be4 n) y) ∙ same ∙ sized_parts config v k z in
    let one = after_number w v _ _ all in
    let two = after_number h k _ _ one in
    let is = number_same n (length config) _ _ two small (omega arith) in
    omega arith

reel_one : (p : Bool) (f g : HoldFileFault) (s t y z : List ℕ) → s ++ y ≡ t ++ z → ReelShows p f s → ReelShows p g t → f ≡ g
reel_one p f g s t y z same a b = elim (reel_kinds p f s a) [
  | inl x ↦ elim (reel_kinds p g t b) [
    | inl v ↦ x.3 ∙ sym v.3
    | inr v ↦ absurd (record_apart x.0 x.1 x.2 v.0 v.1 v.2 y z x.5 x.6 v.4 (sym (ap (λ q. q ++ y) x.4) ∙ same ∙ ap (λ q. q ++ z) v.3))
  ]
  | inr x ↦ elim (reel_kinds p g t b) [
    | inl v ↦ absurd (record_apart v.0 v.1 v.2 x.0 x.1 x.2 z y v.5 v.6 x.4 (sym (ap (λ q. q ++ z) v.4) ∙ sym same ∙ ap (λ q. q ++ y) x.3))
    | inr v ↦
        let parts = same_sized x.0 v.0 x.1 x.2 v.1 v.2 y z x.4 v.4 x.5 x.6 v.5 v.6 (sym (ap (λ q. q ++ y) x.3) ∙ same ∙ ap (λ q. q ++ z) v.3) in
        let moved : IsRecordFault p f v.0 v.1 v.2 = subst (λ c. IsRecordFault p f c v.1 v.2) parts.config
        (subst (λ w. IsRecordFault p f x.0 w v.2) parts.width (subst (λ h. IsRecordFault p f x.0 x.1 h) parts.height x.7)) in
        one_record_fault p f g v.0 v.1 v.2 moved v.7
  ]
]

magic_is : (q : Recordings) (f : HoldFileFault) (s : List ℕ) → MagicShows q f s → f ≡ faults.Magic
magic_is q faults.Magic s shown = refl
magic_is q _ s shown = absurd shown

-- ---- the whole file

pub head_on : (v : Version) (r : Reel) (x y : List ℕ) → (head_text v r ++ x) ++ y ≡ magic r.rules.is_profile v ++ (sized_record r.config r.setup.width r.setup.height ++ (x ++ y))
head_on v r x y = append_assoc (head_text v r) x y ∙ head_parts v r (x ++ y)

-- a magic that is read shows no fault of one
after_a_magic : (q : Recordings) (p : Bool) (v : Version) → IsMagic q p v → (f : HoldFileFault) (s u y z : List ℕ) → s ++ y ≡ (magic p v ++ u) ++ z
    → MagicShows q f s → ⊥
after_a_magic q p v m f s u y z same a = magic_none q p v m (u ++ z) y s f (sym (append_assoc (magic p v) u z) ∙ sym same) a

after_a_head : (q : Recordings) (v : Version) (r : Reel) → IsFileReel q r → HasFileVersion v r.rules.is_profile → (f : HoldFileFault) (s u y z : List ℕ)
    → s ++ y ≡ (head_text v r ++ u) ++ z → MagicShows q f s → ⊥
after_a_head q v r is has f s u y z same a =
    magic_none q r.rules.is_profile v (is.taken, has) (sized_record r.config r.setup.width r.setup.height ++ (u ++ z)) y s f (sym (head_on v r u z) ∙ sym same) a

-- a record that is refused is no reel's
after_a_reel : {q : Recordings} (p : Bool) (w x : Version) (r : Reel) → IsFileReel q r → (f : HoldFileFault) (u v y z : List ℕ)
    → (magic p w ++ u) ++ y ≡ (head_text x r ++ v) ++ z → ReelShows p f u → ⊥
after_a_reel p w x r is f u v y z same a =
    let magics = sym (head_on x r v z) ∙ sym same ∙ append_assoc (magic p w) u y in
    reel_none r is (v ++ z) y p (sym (same_name r.rules.is_profile p x w _ _ magics)) f u (after_magic r.rules.is_profile p x w _ _ magics) a

pub one_fault : (q : Recordings) (f g : HoldFileFault) (s t y z : List ℕ) → s ++ y ≡ t ++ z → FileShows q f s → FileShows q g t → f ≡ g
one_fault q f g s t y z same (inl a) (inl b) = magic_is q f s a ∙ sym (magic_is q g t b)
one_fault q f g s t y z same (inl a) (inr (inl (p, w, u, m, split, b))) = absurd (after_a_magic q p w m f s u y z (same ∙ ap (λ k. k ++ z) split) a)
one_fault q f g s t y z same (inl a) (inr (inr (w, r, u, r_is, split, b))) =
    absurd (after_a_head q w r r_is b.2.version f s u y z (same ∙ ap (λ k. k ++ z) split) a)
one_fault q f g s t y z same (inr (inl (p, w, u, m, split, a))) (inl b) = absurd (after_a_magic q p w m g t u z y (sym same ∙ ap (λ k. k ++ y) split) b)
one_fault q f g s t y z same (inr (inr (w, r, u, r_is, split, a))) (inl b) =
    absurd (after_a_head q w r r_is a.2.version g t u z y (sym same ∙ ap (λ k. k ++ y) split) b)
one_fault q f g s t y z same (inr (inl (p, w, u, m, u_split, a))) (inr (inl (o, x, v, n, v_split, b))) =
    let magics = sym (append_assoc (magic p w) u y) ∙ sym (ap (λ k. k ++ y) u_split) ∙ same ∙ ap (λ k. k ++ z) v_split ∙ append_assoc (magic o x) v z in
    reel_one p f g u v y z (after_magic p o w x _ _ magics) a (subst (λ k. ReelShows k g v) (sym (same_name p o w x _ _ magics)) b)
one_fault q f g s t y z same (inr (inl (p, w, u, m, u_split, a))) (inr (inr (x, r, v, r_is, v_split, b))) =
    absurd (after_a_reel p w x r r_is f u v y z (sym (ap (λ k. k ++ y) u_split) ∙ same ∙ ap (λ k. k ++ z) v_split) a)
one_fault q f g s t y z same (inr (inr (w, r, u, r_is, u_split, a))) (inr (inl (p, x, v, m, v_split, b))) =
    absurd (after_a_reel p x w r r_is g v u z y (sym (ap (λ k. k ++ z) v_split) ∙ sym same ∙ ap (λ k. k ++ y) u_split) b)
one_fault q f g s t y z same (inr (inr (w, r, u, r_is, u_split, (fs, p, f_all, f_inner, a)))) (inr (inr (x, o, v, o_is, v_split, (gs, k, g_all, g_inner, b)))) =
    let heads = same_head w x r o (u ++ y) (v ++ z) (short_reel r r_is) (short_reel o o_is) f_all.version g_all.version (sym (append_assoc (head_text w r) u y)
    ∙ sym (ap (λ k. k ++ y) u_split) ∙ same ∙ ap (λ k. k ++ z) v_split ∙ append_assoc (head_text x o) v z) in
    let fs_all = subst (λ (k : Version). AreEntries k r fs) heads.0 f_all in
    cc (entries_one x o None fs gs (subst (λ (n : Reel). AreValid x n None fs) heads.1 (valid_list x r fs fs_all)) (valid_list x o gs g_all) (fitting_all x r r_is.reel fs fs_all.each) (fitting_all x o o_is.reel gs g_all.each) f g p k y z (sym (ap (λ j. j ++ y) (f_inner ∙ ap (λ (n : Version). entries_text n fs ++ p) heads.0)) ∙ heads.2 ∙ ap (λ j. j ++ z) g_inner) (subst (λ (l : Option FileEntry). EntryShows x o l f p) (last_of-none fs) (subst (λ (k : Reel). EntryShows x k (last_of fs) f p) heads.1 (subst (λ (k : Version). EntryShows k r (last_of fs) f p) heads.0 a))) (subst (λ (l : Option FileEntry). EntryShows x o l g k) (last_of-none gs) b))
