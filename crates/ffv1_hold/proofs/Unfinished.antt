-- No beginning of an unfinished file shows a fault.
use Rattle.ffv1_hold.proofs.Common.{◌≡◌, ℕ, ◌<◌, ◌^◌, List, [], ◌∷◌, ◌++◌, length, take, drop, Option, Some, None, refl, sym, ap, ◌∙◌, subst, inl, inr, arith, append_assoc, append-nil, length-append, take-append-drop, record_limit, Bool, Recordings, HoldFileFault, Version, sized_record, Reel, FileEntry, be4, magic, head_text, body_text, entries_text, last_of, AreEntries, IsPartOfEntry, EntryShows, IsPartOfReel, ReelShows, IsPartOfFile, FileShows}
use Rattle.ffv1_hold.proofs.Bodies.{length-be4}
use Rattle.ffv1_hold.proofs.NumberTexts.{rest_same, number_same, after_number}
use Rattle.ffv1_hold.proofs.BodyTexts.{same_body, body_cut, part_body_none}
use Rattle.ffv1_hold.proofs.TextLaws.{short_reel, entries_after, none_after, AreFitting, fitting_all, same_head, same_name, after_magic, head_parts}
use Rattle.ffv1_hold.proofs.FaultLaws.{last_from, last_of-none, AreValid, valid_list, entry_kinds, not_of_entry, right_none, part_after, part_tag, magic_none, reel_none, sized_cut}
use Rattle.ffv1_hold.proofs.OneFault.{reel_kinds, head_on}

-- ---- entries

module _ (v : Version) (r : Reel) where
  part_entry_none : (last : Option FileEntry) (f : HoldFileFault) (p s y : List ℕ) → p ≡ s ++ y → IsPartOfEntry v r last p → EntryShows v r last f s → ⊥
  part_entry_none last f p s y same part shown = elim (entry_kinds v r last f s shown) [
    | inl w ↦ not_of_entry v r last f w.0 w.2 (sym (part_tag v r last w.0 y (subst (IsPartOfEntry v r last) (same ∙ ap (λ q. q ++ y) w.1) part)))
    | inr w ↦ part_body_none v r last f (w.0 ++ y) w.0 y refl (part_after v r last (w.0 ++ y) (subst (IsPartOfEntry v r last)
        (same ∙ ap (λ q. q ++ y) w.1) part)) w.2
  ]

  entries_unfinished : (last : Option FileEntry) (es fs : List FileEntry) (f : HoldFileFault) (p t y : List ℕ) → AreValid v r last es → AreFitting v es
      → AreFitting v fs → entries_text v es ++ p ≡ (entries_text v fs ++ t) ++ y → IsPartOfEntry v r (last_from last es) p
      → EntryShows v r (last_from last fs) f t → ⊥
  entries_unfinished last [] [] f p t y valid fit fs_fit same part shown =
      part_entry_none last f p t y (sym (none_after v p) ∙ same ∙ ap (λ q. q ++ y) (none_after v t)) part shown
  entries_unfinished last [] (g ∷ fs) f p t y valid fit fs_fit same part shown =
      let all = sym (none_after v p) ∙ same ∙ ap (λ q. q ++ y) (entries_after v g fs t)
      ∙ ap (λ q. 1 ∷ q) (append_assoc (body_text v g) (entries_text v fs ++ t) y) in
      body_cut v r last g ((entries_text v fs ++ t) ++ y) fs_fit.0 (part_after v r last _ (subst (IsPartOfEntry v r last) all part))
  entries_unfinished last (e ∷ es) [] f p t y valid fit fs_fit same part shown =
      right_none v r last e (entries_text v es ++ p) y valid.0.0 fit.0 valid.0.1 valid.0.2 f t (sym (entries_after v e es p) ∙ same
      ∙ ap (λ q. q ++ y) (none_after v t)) shown
  entries_unfinished last (e ∷ es) (g ∷ fs) f p t y valid fit fs_fit same part shown =
      let bodies = rest_same (body_text v e ++ (entries_text v es ++ p)) ((body_text v g ++ (entries_text v fs ++ t)) ++ y) 1 1 (sym (entries_after v e es p)
      ∙ same ∙ ap (λ q. q ++ y) (entries_after v g fs t)) in
      let apart = bodies ∙ append_assoc (body_text v g) (entries_text v fs ++ t) y in
      let one = same_body v e g (entries_text v es ++ p) ((entries_text v fs ++ t) ++ y) fit.0 fs_fit.0 apart in
      entries_unfinished (Some e) es fs f p t y valid.1 fit.1 fs_fit.1 one.1 part
      (subst (λ (x : FileEntry). EntryShows v r (last_from (Some x) fs) f t) (sym one.0) shown)

-- ---- the head

-- a record's length over the limit is no part of a size and a record
record_cut : (w h n : ℕ) (y : List ℕ) → record_limit < n → n < 2 ^ 32 → IsPartOfReel ((be4 w ++ be4 h ++ be4 n) ++ y) → ⊥
record_cut w h n y over small (inl short) =
    omega (
      arith,
      short,
      length-append (be4 w ++ be4 h ++ be4 n) y,
      length-append (be4 w ++ be4 h) (be4 n),
      length-append (be4 w)
          (be4 h),
      length-be4 w,
      length-be4 h,
      length-be4 n,
    )
record_cut w h n y over small (inr (v, k, m, config, split, few, cut)) =
    let all = sym (append_assoc (be4 w) (be4 h) (be4 n ++ y)) ∙ sym (append_assoc (be4 w ++ be4 h) (be4 n) y) ∙ split
    ∙ append_assoc (be4 v ++ be4 k) (be4 m) config ∙ append_assoc (be4 v) (be4 k) (be4 m ++ config) in
    let one = after_number w v _ _ all in
    let two = after_number h k _ _ one in
    let is = number_same n m _ _ two small (omega arith) in
    omega arith

part_reel_none : (k : Bool) (f : HoldFileFault) (p s y : List ℕ) → p ≡ s ++ y → IsPartOfReel p → ReelShows k f s → ⊥
part_reel_none k f p s y same part shown = elim (reel_kinds k f s shown) [
  | inl x ↦ record_cut x.0 x.1 x.2 y x.5 x.6 (subst IsPartOfReel (same ∙ ap (λ q. q ++ y) x.4) part)
  | inr x ↦ sized_cut x.0 x.1 x.2 y x.4 (subst IsPartOfReel (same ∙ ap (λ q. q ++ y) x.3) part)
]

-- ---- the whole file

-- a part of the magic begins it
magic_from : (k : Bool) (v : Version) (s : List ℕ) → s ≡ take (length s) (magic k v) → magic k v ++ [] ≡ s ++ drop (length s) (magic k v)
magic_from k v s is = append-nil (magic k v) ∙ sym (take-append-drop (length s) (magic k v)) ∙ ap (λ q. q ++ drop (length s) (magic k v)) (sym is)

pub part_shows_none : (c : Recordings) (f : HoldFileFault) (s t y : List ℕ) → s ≡ t ++ y → IsPartOfFile c s → FileShows c f t → ⊥
part_shows_none c f s t y same (inl (few, b)) (inl a) =
    let rest = drop (length s) (magic b.of_profile b.version) in
    magic_none c b.of_profile b.version b.is_magic [] (y ++ rest) t f (magic_from b.of_profile b.version s b.begins ∙ ap (λ q. q ++ rest) same
    ∙ append_assoc t y rest) a
part_shows_none c f s t y same (inl (few, b)) (inr (inl (k, w, u, m, split, a))) =
    omega (arith, few, ap length same, length-append t y, ap length split, length-append (magic k w) u)
part_shows_none c f s t y same (inl (few, b)) (inr (inr (w, r, u, r_is, split, a))) =
    omega (
      arith,
      few,
      ap length same,
      length-append t y,
      ap length (split ∙ head_parts w r u),
      length-append (magic r.rules.is_profile w) (sized_record r.config r.setup.width r.setup.height ++ u),
    )
part_shows_none c f s t y same (inr (inl (k, x, p, m, s_split, part))) (inl a) = magic_none c k x m p y t f (sym s_split ∙ same) a
part_shows_none c f s t y same (inr (inl (k, x, p, m, s_split, part))) (inr (inl (j, w, u, n, split, a))) =
    let magics = sym s_split ∙ same ∙ ap (λ q. q ++ y) split ∙ append_assoc (magic j w) u y in
    part_reel_none j f p u y (after_magic k j x w _ _ magics) part a
part_shows_none c f s t y same (inr (inl (k, x, p, m, s_split, part))) (inr (inr (w, r, u, r_is, split, a))) =
    sized_cut r.config r.setup.width r.setup.height (u ++ y) r_is.fits
    (subst IsPartOfReel (after_magic k _ x w _ _ (sym s_split ∙ same ∙ ap (λ q. q ++ y) split ∙ head_on w r u y)) part)
part_shows_none c f s t y same (inr (inr (x, q, p, q_is, s_split, part))) (inl a) =
    magic_none c q.rules.is_profile x (q_is.taken, part.2.version) _ y t f (sym (head_parts x q p) ∙ sym s_split ∙ same) a
part_shows_none c f s t y same (inr (inr (x, q, p, q_is, s_split, part))) (inr (inl (j, w, u, n, split, a))) =
    let magics = sym (head_parts x q p) ∙ sym s_split ∙ same ∙ ap (λ z. z ++ y) split ∙ append_assoc (magic j w) u y in
    reel_none q q_is p y j (sym (same_name q.rules.is_profile j x w _ _ magics)) f u (after_magic q.rules.is_profile j x w _ _ magics) a
part_shows_none c f s t y same (inr (inr (x, q, p, q_is, s_split, (es, m, entries, inner, part)))) (inr (inr (w, r, u, r_is, split, (fs, n, more, after, a)))) =
    let heads = same_head x w q r p (u ++ y) (short_reel q q_is) (short_reel r r_is) entries.version more.version (sym s_split ∙ same ∙ ap (λ z. z ++ y) split ∙ append_assoc (head_text w r) u y) in
    let fs_all = subst (λ (k : Version). AreEntries k r fs) (sym heads.0) more in
    entries_unfinished x q None es fs f m n y (valid_list x q es entries) (fitting_all x q q_is.reel es entries.each)
    (fitting_all x r r_is.reel fs fs_all.each)
    (sym inner ∙ heads.2 ∙ ap (λ z. z ++ y) (after ∙ ap (λ (k : Version). entries_text k fs ++ n) (sym heads.0)))
    (subst (λ (l : Option FileEntry). IsPartOfEntry x q l m) (last_of-none es) part)
    (subst (λ (l : Option FileEntry). EntryShows x q l f n) (last_of-none fs) (subst (λ (k : Reel). EntryShows x k (last_of fs) f n) (sym heads.1)
    (subst (λ (k : Version). EntryShows k r (last_of fs) f n) (sym heads.0) a)))
