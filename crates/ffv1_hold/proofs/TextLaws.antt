-- Texts of holdings are read in one way only.
use Rattle.ffv1_hold.proofs.Common.{◌≡◌, ℕ, ◌<◌, ◌≤◌, ◌^◌, ◌==◌, Bool, true, false, List, [], ◌∷◌, ◌++◌, length, get_or, refl, sym, ap, ◌∙◌, subst, arith, append_assoc, AllByRecursion, record_limit, reel_small, HeadLimits, reel_limits, reel_tiles_few, slice_in_grid, Reel, IsReel, Contents, IsHolding, Version, First, Second, FileEntry, HasFileVersion, Recordings, be4, magic, sized_record, head_text, body_text, entry_text, entries_text, file_entries, file_text, IsStated, IsTextOf, HasText, IsFileEntryOf, IsFileReel, same_in_frames, ◌*◌}
use Rattle.ffv1_hold.proofs.NumberTexts.{same_front, same_back, no_tag, rest_same, number_same, after_number}
use Rattle.ffv1_hold.proofs.DigestTexts.{has_text_after}
use Rattle.ffv1_hold.proofs.BodyTexts.{same_body}
use Rattle.ffv1_hold.proofs.Slots.{entries_text-none, entries_text-cons}
use Rattle.ffv1_hold.proofs.HeldEntries.{all_entries, same_contents, version_of}

-- ---- entries and the end tag

-- entries that can be written in a file
abbrev pub AreFitting : Version → List FileEntry → Type 0
AreFitting v es = AllByRecursion (HasText v) es

module _ (v : Version) where
  -- the text of an entry and more
  pub entries_after : (e : FileEntry) (es : List FileEntry) (x : List ℕ) → entries_text v (e ∷ es) ++ x ≡ 1 ∷ (body_text v e ++ (entries_text v es ++ x))
  entries_after e es x = ap (λ t. t ++ x) (entries_text-cons v e es) ∙ append_assoc (entry_text v e) (entries_text v es) x

  pub none_after : (x : List ℕ) → entries_text v [] ++ x ≡ x
  none_after x = ap (λ t. t ++ x) (entries_text-none v)

  -- a list of entries and the end tag are read in one way
  pub same_entries : (es fs : List FileEntry) (x y : List ℕ) → AreFitting v es → AreFitting v fs
      → entries_text v es ++ 0 ∷ x ≡ entries_text v fs ++ 0 ∷ y → es ≡ fs
  same_entries [] [] x y es_fit fs_fit e = refl
  same_entries [] (f ∷ fs) x y es_fit fs_fit e = grind (arith, no_tag, none_after, entries_after)
  same_entries (g ∷ es) [] x y es_fit fs_fit e = grind (arith, no_tag, entries_after, none_after)
  same_entries (g ∷ es) (f ∷ fs) x y es_fit fs_fit e =
      let bodies = rest_same (body_text v g ++ (entries_text v es ++ 0 ∷ x)) (body_text v f ++ (entries_text v fs ++ 0 ∷ y)) 1 1
      (sym (entries_after g es (0 ∷ x)) ∙ e ∙ entries_after f fs (0 ∷ y)) in
      let one = same_body v g f (entries_text v es ++ 0 ∷ x) (entries_text v fs ++ 0 ∷ y) es_fit.0 fs_fit.0 bodies in
      let others = same_entries es fs x y es_fit.1 fs_fit.1 one.1 in
      λ i. one.0 i ∷ others i

  -- an entry of a reel has a text
  pub entry_has_text : (r : Reel) → IsReel r → (e : FileEntry) → IsFileEntryOf v r.rules e → HasText v e
  entry_has_text r is e entry =
      let grid = slice_in_grid r.rules e.0.1 (e.0.0 == 0) e.0.0 entry.slice.slice in
      let few = reel_tiles_few r is in
      let limits = ap (λ (limits : HeadLimits). limits.across * limits.down) (reel_limits r is) in
      (omega arith, entry.slice.fits, has_text_after v e.1 entry.origins)

  pub fitting_all : (r : Reel) → IsReel r → (es : List FileEntry) → AllByRecursion (IsFileEntryOf v r.rules) es → AreFitting v es
  fitting_all r is [] each = tt
  fitting_all r is (e ∷ es) each = (entry_has_text r is e each.0, fitting_all r is es each.1)

  -- the entries of a holding whose origins the version can give have texts
  pub fitting_items : (h : Contents) → IsHolding h → IsStated v h → AreFitting v (file_entries h)
  fitting_items h is stated = fitting_all h.reel is.reel (file_entries h) (all_entries v h is stated)

-- ---- the head

pub sized_parts : (config : List ℕ) (w h : ℕ) (x : List ℕ) → sized_record config w h ++ x ≡ be4 w ++ (be4 h ++ (be4 (length config) ++ (config ++ x)))
unfolding sized_record
sized_parts config w h x = grind (arith, append_assoc)

-- two sizes and records that begin the same bytes are the same
pub same_sized : (c d : List ℕ) (w h v k : ℕ) (x y : List ℕ) → length c ≤ record_limit → length d ≤ record_limit → w < 2 ^ 32 → h < 2 ^ 32 → v < 2 ^ 32
    → k < 2 ^ 32
    → sized_record c w h ++ x ≡ sized_record d v k ++ y → record { width : w ≡ v; height : h ≡ k; config : c ≡ d; rest : x ≡ y }
same_sized c d w h v k x y c_fits d_fits w_fits h_fits v_fits k_fits e = grind (arith, sized_parts, after_number, number_same, same_front, same_back)

pub head_parts : (v : Version) (r : Reel) (x : List ℕ) → head_text v r ++ x ≡ magic r.rules.is_profile v ++ (sized_record r.config r.setup.width r.setup.height ++ x)
unfolding head_text
head_parts v r x = append_assoc (magic r.rules.is_profile v) (sized_record r.config r.setup.width r.setup.height) x

-- two magics that begin the same bytes are of the same recordings, ..
pub same_name : (p q : Bool) (v w : Version) (x y : List ℕ) → magic p v ++ x ≡ magic q w ++ y → p ≡ q
same_name true true v w x y e = refl
same_name true false v w x y e = let letter = ap (λ z. get_or z 4 0) e in absurd (omega arith)
same_name false true v w x y e = let letter = ap (λ z. get_or z 4 0) e in absurd (omega arith)
same_name false false v w x y e = refl

-- .. and of one version
pub same_version : (p : Bool) (v w : Version) → HasFileVersion v p → HasFileVersion w p → (x y : List ℕ) → magic p v ++ x ≡ magic p w ++ y → v ≡ w
same_version p First First v_has w_has x y e = refl
same_version p First Second v_has w_has x y e =
    let number = ap (λ z. get_or z 7 0) (subst (λ b. magic b First ++ x ≡ magic b Second ++ y) v_has e) in absurd (omega arith)
same_version p Second First v_has w_has x y e =
    let number = ap (λ z. get_or z 7 0) (subst (λ b. magic b Second ++ x ≡ magic b First ++ y) w_has e) in absurd (omega arith)
same_version p Second Second v_has w_has x y e = refl

pub after_magic : (p q : Bool) (v w : Version) (x y : List ℕ) → magic p v ++ x ≡ magic q w ++ y → x ≡ y
after_magic p q v w x y e = same_back (magic p v) (magic q w) x y refl e

-- a reel whose record is within its limit
pub record IsShortReel (r : Reel) : Type 0 where
  pub reel : IsReel r
  pub fits : length r.config ≤ record_limit

pub short_reel : {q : Recordings} (r : Reel) → IsFileReel q r → IsShortReel r
short_reel r is = record { reel = is.reel; fits = is.fits }

-- two heads that begin the same bytes are of one reel, and the same follows them
pub one_reel : (v w : Version) (r s : Reel) (x y : List ℕ) → IsShortReel r → IsShortReel s → head_text v r ++ x ≡ head_text w s ++ y → (r ≡ s) × (x ≡ y)
one_reel v w r s x y r_is s_is e =
    let p = r.rules.is_profile in
    let q = s.rules.is_profile in
    let magics = sym (head_parts v r x) ∙ e ∙ head_parts w s y in
    let small = reel_small r r_is.reel in
    let also_small = reel_small s s_is.reel in
    let parts = same_sized r.config s.config r.setup.width r.setup.height s.setup.width s.setup.height x y r_is.fits s_is.fits small.0 small.1
    also_small.0 also_small.1 (after_magic p q v w _ _ magics) in
    (same_in_frames r s r_is.reel s_is.reel parts.config parts.width parts.height (same_name p q v w _ _ magics), parts.rest)

-- and of one version, where both have theirs
pub same_head : (v w : Version) (r s : Reel) (x y : List ℕ) → IsShortReel r → IsShortReel s → HasFileVersion v r.rules.is_profile
    → HasFileVersion w s.rules.is_profile → head_text v r ++ x ≡ head_text w s ++ y → (v ≡ w) × (r ≡ s) × (x ≡ y)
same_head v w r s x y r_is s_is v_has w_has e =
    let one = one_reel v w r s x y r_is s_is e in
    let p = r.rules.is_profile in
    let same = ap (λ (k : Reel). k.rules.is_profile) (sym one.0) in
    let magics = sym (head_parts v r x) ∙ e ∙ head_parts w s y in (
      same_version p v w v_has (subst (HasFileVersion w) same w_has) (sized_record r.config r.setup.width r.setup.height ++ x)
          (sized_record s.config s.setup.width s.setup.height ++ y)
          (subst (λ b. magic p v ++ (sized_record r.config r.setup.width r.setup.height ++ x)
          ≡ magic b w ++ (sized_record s.config s.setup.width s.setup.height ++ y)) same magics),
      one.0,
      one.1,
    )

-- ---- whole texts

pub text_parts : (v : Version) (h : Contents) → file_text v h ≡ head_text v h.reel ++ (entries_text v (file_entries h) ++ 0 ∷ [])
text_parts v h = append_assoc (head_text v h.reel) (entries_text v (file_entries h)) (0 ∷ [])

-- holdings of one text are equal
pub one_file : (v w : Version) (g h : Contents) → IsHolding g → IsHolding h → length g.reel.config ≤ record_limit → length h.reel.config ≤ record_limit
    → IsStated v g → IsStated w h → file_text v g ≡ file_text w h → g ≡ h
one_file v w g h g_is h_is g_fits h_fits g_stated h_stated e =
    let heads = same_head v w g.reel h.reel _ _ (record { reel = g_is.reel; fits = g_fits }) (record { reel = h_is.reel; fits = h_fits })
    (version_of v g g_stated) (version_of w h h_stated)
    (sym (text_parts v g) ∙ e ∙ text_parts w h) in
    let stated = subst (λ (u : Version). IsStated u h) (sym heads.0) h_stated in
    let tail = heads.2 ∙ ap (λ (u : Version). entries_text u (file_entries h) ++ 0 ∷ []) (sym heads.0) in
    cc (same_contents g h g_is h_is heads.1 (same_entries v (file_entries g) (file_entries h) [] [] (fitting_items v g g_is g_stated) (fitting_items v h h_is stated) tail))

pub one_text : (g h : Contents) (text : List ℕ) → IsHolding g → IsHolding h → length g.reel.config ≤ record_limit → length h.reel.config ≤ record_limit
    → IsTextOf text g → IsTextOf text h → g ≡ h
one_text g h text g_is h_is g_fits h_fits (v, g_stated, g_tells, e) (w, h_stated, h_tells, f) = one_file v w g h g_is h_is g_fits h_fits g_stated h_stated (sym e ∙ f)
