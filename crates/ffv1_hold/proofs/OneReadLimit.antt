-- Each text and output has one read_limit.
use Rattle.ffv1_hold.proofs.Common.{in_frames, ◌≡◌, ℕ, zero, suc, ◌<◌, ◌≤◌, ◌^◌, List, [], ◌∷◌, ◌++◌, length, take, drop, get_or, Contains, Option, Some, None, refl, sym, ap, ◌∙◌, subst, inl, inr, arith, append_assoc, append-nil, length-append, take-append-drop, ◌⊎◌, AllByRecursion, w16, w32, from_be_bytes, tied_itself, Less, Equal, Greater, cases_lt, from_be_bytes-to_be_bytes_2, from_be_bytes-to_be_bytes_4, take-append_seam, drop-append_seam, Entry, bytes_cmp, bytes_total, bytes_antisymmetric, Reel, Contents, digests_of, joined, Version, Second, FileEntry, be2, be4, head_text, origins_text, body_text, entry_text, entries_text, file_entries, file_text, HasText, IsDigest, LiesWhole, AreAllDigests, EndsFirstOpen, IsReadLimitOf}
use Rattle.ffv1_range.specs.declared.frames.Frames.{Frames}
use Rattle.ffv1_range.specs.declared.frames.Frames.TheVariants.{Ruled, Any}
use Rattle.ffv1_hold.proofs.Bodies.{length-be2, length-be4}
use Rattle.ffv1_hold.proofs.NumberTexts.{same_back, rest_same}
use Rattle.ffv1_hold.proofs.SliceTexts.{slice_parts}
use Rattle.ffv1_hold.proofs.DigestTexts.{whole, origins_parts}
use Rattle.ffv1_hold.proofs.BodyTexts.{body_parts, same_body}
use Rattle.ffv1_hold.proofs.TextLaws.{entries_after, none_after}
use Rattle.ffv1_hold.proofs.MergeReadLimits.{after_all}
use Rattle.ffv1_hold.proofs.DigestSets.{has}

-- ---- decisions on bytes

decide_same : (xs ys : List ℕ) → (xs ≡ ys) ⊎ (¬ (xs ≡ ys))
decide_same xs ys =
    elim (bytes_cmp xs ys) as (λ o. bytes_cmp xs ys ≡ o → (xs ≡ ys) ⊎ (¬ (xs ≡ ys))) [
      | Less ↦ λ e. inr (λ same. let tie = sym (tied_itself bytes_total xs) ∙ ap (bytes_cmp xs) same in absurd (cc))
      | Equal ↦ λ e. inl (bytes_antisymmetric xs ys e)
      | Greater ↦ λ e. inr (λ same. let tie = sym (tied_itself bytes_total xs) ∙ ap (bytes_cmp xs) same in absurd (cc))
    ] refl

-- whether bytes begin with others
starts : (xs ys : List ℕ) → ((rest : List ℕ) × (ys ≡ xs ++ rest)) ⊎ ((rest : List ℕ) → ys ≡ xs ++ rest → ⊥)
starts xs ys = elim (decide_same (take (length xs) ys) xs) [
  | inl same ↦ inl (drop (length xs) ys, sym (take-append-drop (length xs) ys) ∙ ap (λ t. t ++ drop (length xs) ys) same)
  | inr other ↦ inr (λ rest is. other (ap (take (length xs)) is ∙ take-append_seam xs rest))
]

be2_back : (n : ℕ) → n < 2 ^ 16 → from_be_bytes w16 (be2 n) ≡ n
unfolding be2
be2_back n small = from_be_bytes-to_be_bytes_2 n small

be4_back : (n : ℕ) → n < 2 ^ 32 → from_be_bytes w32 (be4 n) ≡ n
unfolding be4
be4_back n small = from_be_bytes-to_be_bytes_4 n small

front_of : (xs : List ℕ) (n : ℕ) (rest : List ℕ) → length xs ≡ n → take n (xs ++ rest) ≡ xs
front_of xs n rest is = subst (λ k. take k (xs ++ rest) ≡ xs) is (take-append_seam xs rest)

back_of : (xs : List ℕ) (n : ℕ) (rest : List ℕ) → length xs ≡ n → drop n (xs ++ rest) ≡ rest
back_of xs n rest is = subst (λ k. drop k (xs ++ rest) ≡ rest) is (drop-append_seam xs rest)

-- ---- the entry that bytes begin with

-- digests, one after the other
chunks : ℕ → List ℕ → List (List ℕ)
chunks zero x = []
chunks (suc n) x = take 32 x ∷ chunks n (drop 32 x)

chunks_back : (ds : List (List ℕ)) (y : List ℕ) → AllByRecursion IsDigest ds → chunks (length ds) (whole ds ++ y) ≡ ds
unfolding chunks
chunks_back [] y all = refl
chunks_back (d ∷ ds) y all =
    let apart = append_assoc d (whole ds) y in
    (λ i. (ap (take 32) apart ∙ front_of d 32 (whole ds ++ y) all.0) i ∷
    (ap (λ z. chunks (length ds) (drop 32 z)) apart ∙ ap (chunks (length ds)) (back_of d 32 (whole ds ++ y) all.0) ∙ chunks_back ds y all.1) i)

-- the one that bytes give, if they give any
abbrev stated_length : List ℕ → ℕ
stated_length x = from_be_bytes w32 (take 4 (drop 2 (drop 1 x)))

abbrev stated_slice : List ℕ → Entry
stated_slice x = (from_be_bytes w16 (take 2 (drop 1 x)), take (stated_length x) (drop 4 (drop 2 (drop 1 x))))

-- what stands after its slice
abbrev stated_rest : List ℕ → List ℕ
stated_rest x = drop (stated_length x) (drop 4 (drop 2 (drop 1 x)))

abbrev stated_count : List ℕ → ℕ
stated_count x = from_be_bytes w32 (take 4 (stated_rest x))

abbrev stated_entry : List ℕ → FileEntry
stated_entry x = (stated_slice x, chunks (stated_count x) (drop 4 (stated_rest x)))

stated_is : (f : FileEntry) → HasText Second f → (x y : List ℕ) → x ≡ entry_text Second f ++ y → stated_entry x ≡ f
stated_is f fits x y is =
    let s = f.0 in
    let ds = f.1 in
    let after = origins_text ds ++ y in
    let one = ap (drop 1) is ∙ body_parts Second f y ∙ slice_parts s after in
    let two = ap (drop 2) one ∙ back_of (be2 s.0) 2 _ (length-be2 s.0) in
    let three = ap (drop 4) two ∙ back_of (be4 (length s.1)) 4 _ (length-be4 (length s.1)) in
    let few = fits.1 in
    let tile = ap (λ z. from_be_bytes w16 (take 2 z)) one ∙ ap (from_be_bytes w16) (front_of (be2 s.0) 2 _ (length-be2 s.0)) ∙ be2_back s.0 fits.0 in
    let long : stated_length x ≡ length s.1 = ap (λ z. from_be_bytes w32 (take 4 z)) two
    ∙ ap (from_be_bytes w32) (front_of (be4 (length s.1)) 4 _ (length-be4 (length s.1))) ∙ be4_back (length s.1) (omega arith) in
    let bytes = ap (take (stated_length x)) three ∙ ap (λ n. take n (s.1 ++ after)) long ∙ take-append_seam s.1 after in
    let rest : stated_rest x ≡ be4 (length ds) ++ (whole ds ++ y) = cc (drop-append_seam s.1 after, origins_parts ds y) in
    let some = fits.2.1 in
    let count : stated_count x ≡ length ds = ap (λ z. from_be_bytes w32 (take 4 z)) rest
    ∙ ap (from_be_bytes w32) (front_of (be4 (length ds)) 4 _ (length-be4 (length ds))) ∙ be4_back (length ds) (omega arith) in
    let digests = ap (λ z. chunks (stated_count x) (drop 4 z)) rest ∙ ap (chunks (stated_count x)) (back_of (be4 (length ds)) 4 _ (length-be4 (length ds)))
    ∙ ap (λ n. chunks n (whole ds ++ y)) count ∙ chunks_back ds y fits.2.0 in
    λ i. ((tile i, bytes i), digests i)

abbrev HasEntry : List ℕ → Type 0
HasEntry x = (f : FileEntry) × HasText Second f × ((y : List ℕ) × (x ≡ entry_text Second f ++ y))

decide_equal : (m n : ℕ) → (m ≡ n) ⊎ (¬ (m ≡ n))
decide_equal m n = grind (arith, cases_lt)

decide_whole_digests : (ds : List (List ℕ)) → AllByRecursion IsDigest ds ⊎ (¬ AllByRecursion IsDigest ds)
decide_whole_digests [] = inl tt
decide_whole_digests (d ∷ ds) = grind (arith, decide_equal, decide_whole_digests ds)

decide_text : (e : FileEntry) → HasText Second e ⊎ (¬ HasText Second e)
decide_text e = grind (arith, cases_lt, decide_whole_digests)

decide_entry : (x : List ℕ) → HasEntry x ⊎ (¬ HasEntry x)
decide_entry x =
    let c = stated_entry x in
    elim (decide_text c) [
      | inr none ↦ inr (λ h. none (subst (HasText Second) (sym (stated_is h.0 h.1 x h.2.0 h.2.1)) h.1))
      | inl has ↦ elim (starts (entry_text Second c) x) [
        | inl s ↦ inl (c, has, s)
        | inr none ↦ inr (λ h. none h.2.0 (h.2.1 ∙ ap (λ (e : FileEntry). entry_text Second e ++ h.2.0) (sym (stated_is h.0 h.1 x h.2.0 h.2.1))))
      ]
    ]

-- ---- an entry after others

-- a digest among others, of which the first is another
elsewhere : (x : List ℕ) (ds : List (List ℕ)) (d : List ℕ) → ¬ (x ≡ d) → ¬ Contains ds d → (i : ℕ) → i < length (x ∷ ds) → get_or (x ∷ ds) i d ≡ d → ⊥
elsewhere x ds d other none zero lt is = other is
elsewhere x ds d other none (suc i) lt is = none (i, omega arith, is)

decide_contained : (ds : List (List ℕ)) (d : List ℕ) → Contains ds d ⊎ (¬ Contains ds d)
decide_contained [] d = inr (λ c. omega (arith, c.1))
decide_contained (x ∷ ds) d = elim (decide_same x d) [
  | inl same ↦ inl (0, omega arith, same)
  | inr other ↦ elim (decide_contained ds d) [
    | inl c ↦ inl (suc c.0, omega (arith, c.1), c.2)
    | inr none ↦ inr (λ c. elsewhere x ds d other none c.0 c.1 c.2)
  ]
]

decide_among : (es ds : List (List ℕ)) → AllByRecursion (Contains es) ds ⊎ (¬ AllByRecursion (Contains es) ds)
decide_among es [] = inl tt
decide_among es (d ∷ ds) = elim (decide_contained es d) [
  | inr not ↦ inr (λ all. not all.0)
  | inl one ↦ elim (decide_among es ds) [ inl all ↦ inl (one, all) | inr none ↦ inr (λ all. none all.1) ]
]

decide_same_list : (ds es : List (List ℕ)) → (ds ≡ es) ⊎ (¬ (ds ≡ es))
decide_same_list [] [] = inl refl
decide_same_list [] (e ∷ es) = inr (λ same. omega (arith, ap length same))
decide_same_list (d ∷ ds) [] = inr (λ same. omega (arith, ap length same))
decide_same_list (d ∷ ds) (e ∷ es) = elim (decide_same d e) [
  | inr other ↦ inr (λ same. other (ap (λ xs. get_or xs 0 d) same))
  | inl first ↦ elim (decide_same_list ds es) [ inl rest ↦ inl (λ i. first i ∷ rest i) | inr other ↦ inr (λ same. other (ap (drop 1) same)) ]
]

-- an entry of this slice, with all digests
record Shows (AreAll : FileEntry → List (List ℕ) → Type 0) (e f : FileEntry) : Type 0 where
  slice : f.0 ≡ e.0
  all : AreAll e f.1

decide_slice : (e f : Entry) → (f ≡ e) ⊎ (¬ (f ≡ e))
decide_slice e f = elim (decide_equal f.0 e.0) [
  | inr other ↦ inr (λ same. other (ap (λ (x : Entry). x.0) same))
  | inl tile ↦ elim (decide_same f.1 e.1) [ inl bytes ↦ inl (λ i. (tile i, bytes i)) | inr other ↦ inr (λ same. other (ap (λ (x : Entry). x.1) same)) ]
]

module _ (AreAll : FileEntry → List (List ℕ) → Type 0) (decide_all : (e : FileEntry) (ds : List (List ℕ)) → AreAll e ds ⊎ (¬ AreAll e ds)) where
  decide_shows : (e f : FileEntry) → Shows AreAll e f ⊎ (¬ Shows AreAll e f)
  decide_shows e f = elim (decide_slice e.0 f.0) [
    | inr other ↦ inr (λ s. other s.slice)
    | inl same ↦ elim (decide_all e f.1) [ inl all ↦ inl (record { slice = same; all = all }) | inr none ↦ inr (λ s. none s.all) ]
  ]

  -- entries, and after them one that shows this one
  abbrev StandsIn : FileEntry → List ℕ → Type 0
  StandsIn e x = (before : List FileEntry) × (f : FileEntry) × (rest : List ℕ) × AllByRecursion (HasText Second) before × HasText Second f × Shows AreAll e f
      × (x ≡ entries_text Second before ++ (entry_text Second f ++ rest))

  -- an entry that is not the first stands after the one that is
  stands_after : (e : FileEntry) (f : FileEntry) → HasText Second f → (x y : List ℕ) → x ≡ entry_text Second f ++ y → ¬ Shows AreAll e f → StandsIn e x → StandsIn e y
  stands_after e f fits x y is none ([], g, rest, all, has, shows, split) =
      let one = same_body Second f g y rest fits has (rest_same _ _ 1 1 (sym is ∙ split ∙ none_after Second (entry_text Second g ++ rest))) in
      absurd (none (subst (Shows AreAll e) (sym one.0) shows))
  stands_after e f fits x y is none (h ∷ before, g, rest, all, has, shows, split) =
      let bodies = rest_same (body_text Second f ++ y) (body_text Second h ++ (entries_text Second before ++ (entry_text Second g ++ rest))) 1 1 (sym is ∙ split
      ∙ entries_after Second h before (entry_text Second g ++ rest)) in
      (before, g, rest, all.1, has, shows, (same_body Second f h y (entries_text Second before ++ (entry_text Second g ++ rest)) fits all.0 bodies).1)

  none_stands : (e : FileEntry) (x : List ℕ) → (¬ HasEntry x) → StandsIn e x → ⊥
  none_stands e x other ([], g, rest, all, has, shows, split) = other (g, has, (rest, split ∙ none_after Second (entry_text Second g ++ rest)))
  none_stands e x other (h ∷ before, g, rest, all, has, shows, split) = grind (arith, entries_after)

  one_more : (e f : FileEntry) → HasText Second f → (x y : List ℕ) → x ≡ entry_text Second f ++ y → StandsIn e y → StandsIn e x
  one_more e f fits x y is (before, g, rest, all, has, shows, split) = (
    f ∷ before,
    g,
    rest,
    (fits, all),
    has,
    shows,
    is ∙ ap (λ z. entry_text Second f ++ z) split
        ∙ sym (entries_after Second f before (entry_text Second g ++ rest)),
  )

  decide_stands : (e : FileEntry) (n : ℕ) (x : List ℕ) → length x ≤ n → StandsIn e x ⊎ (¬ StandsIn e x)
  decide_stands e zero x few = elim (decide_entry x) [
    | inl h ↦ let long = ap length h.2.1 in absurd (omega (arith, few, long))
    | inr other ↦ inr (none_stands e x other)
  ]
  decide_stands e (suc n) x few = elim (decide_entry x) [
    | inr other ↦ inr (none_stands e x other)
    | inl h ↦ elim (decide_shows e h.0) [
      | inl shows ↦ inl ([], h.0, h.2.0, tt, h.1, shows, h.2.1 ∙ sym (none_after Second (entry_text Second h.0 ++ h.2.0)))
      | inr none ↦
          let shorter : length h.2.0 ≤ n = omega (arith, few, ap length h.2.1, length-append (entry_text Second h.0) h.2.0) in
          elim (decide_stands e n h.2.0 shorter) [
            | inl s ↦ inl (one_more e h.0 h.1 x h.2.0 h.2.1 s)
            | inr not ↦ inr (λ s. not (stands_after e h.0 h.1 x h.2.0 h.2.1 none s))
          ]
    ]
  ]

  -- ---- an entry that lies whole

  whole_parts : (r : Reel) (f : FileEntry) (before : List FileEntry) (rest : List ℕ)
      → head_text Second r ++ entries_text Second before ++ entry_text Second f ++ rest
      ≡ head_text Second r ++ (entries_text Second before ++ (entry_text Second f ++ rest))
  whole_parts r f before rest = grind (arith, append_assoc)

  -- it stands in what follows the head of a reel
  abbrev StandsAfter : Reel → List ℕ → FileEntry → Type 0
  StandsAfter r bytes e = (x : List ℕ) × (bytes ≡ head_text Second r ++ x) × StandsIn e x

  stands_whole : (frames : Frames) (r : Reel) (bytes : List ℕ) (e : FileEntry) → StandsAfter (in_frames frames r) bytes e → LiesWhole AreAll r bytes e
  stands_whole frames r bytes e (x, is, (before, f, rest, all, has, shows, split)) =
      let same : f ≡ (e.0, f.1) = λ i. (shows.slice i, f.1) in
      record {
        frames = frames;
        before = before;
        digests = f.1;
        rest = rest;
        entries = all;
        entry = subst (HasText Second) same has;
        all = shows.all;
        split = is ∙ ap (λ t. head_text Second (in_frames frames r) ++ t) (split ∙ ap (λ g. entries_text Second before ++ (entry_text Second g ++ rest)) same)
            ∙ sym (whole_parts (in_frames frames r) (e.0, f.1) before rest);
      }

  whole_stands : (r : Reel) (bytes : List ℕ) (e : FileEntry) (w : LiesWhole AreAll r bytes e) → StandsAfter (in_frames w.frames r) bytes e
  whole_stands r bytes e w = (
    entries_text Second w.before ++ (entry_text Second (e.0, w.digests) ++ w.rest),
    w.split ∙ whole_parts (in_frames w.frames r) (e.0, w.digests) w.before w.rest,
    (w.before, (e.0, w.digests), w.rest, w.entries, w.entry, record { slice = refl; all = w.all }, refl),
  )

  decide_after : (r : Reel) (bytes : List ℕ) (e : FileEntry) → StandsAfter r bytes e ⊎ (¬ StandsAfter r bytes e)
  decide_after r bytes e = elim (starts (head_text Second r) bytes) [
    | inr none ↦ inr (λ s. none s.0 s.1)
    | inl s ↦ elim (decide_stands e (length s.0) s.0 (omega arith)) [
      | inl t ↦ inl (s.0, s.1, t)
      | inr none ↦ inr (λ t. none (subst (StandsIn e) (same_back (head_text Second r) (head_text Second r) t.0 s.0 refl (sym t.1 ∙ s.1)) t.2))
    ]
  ]

  in_neither : (frames : Frames) (r : Reel) (bytes : List ℕ) (e : FileEntry) → (¬ StandsAfter (in_frames Ruled r) bytes e)
      → (¬ StandsAfter (in_frames Any r) bytes e) → ¬ StandsAfter (in_frames frames r) bytes e
  in_neither Ruled r bytes e ruled any = ruled
  in_neither Any r bytes e ruled any = any

  decide_whole : (r : Reel) (bytes : List ℕ) (e : FileEntry) → LiesWhole AreAll r bytes e ⊎ (¬ LiesWhole AreAll r bytes e)
  decide_whole r bytes e = elim (decide_after (in_frames Ruled r) bytes e) [
    | inl t ↦ inl (stands_whole Ruled r bytes e t)
    | inr ruled ↦ elim (decide_after (in_frames Any r) bytes e) [
      | inl t ↦ inl (stands_whole Any r bytes e t)
      | inr any ↦ inr (λ w. in_neither w.frames r bytes e ruled any (whole_stands r bytes e w))
    ]
  ]

decide_all_digests : (h : Contents) (other : Option Contents) (e : FileEntry) (ds : List (List ℕ)) → AreAllDigests h other e ds ⊎ (¬ AreAllDigests h other e ds)
decide_all_digests h None e ds = decide_among ds e.1
decide_all_digests h (Some other) e ds = decide_same_list ds (digests_of (joined h other) e.0)

-- ---- the first that is open

-- all are so, or there is a first that isn't
abbrev HasOpen : (FileEntry → Type 0) → List FileEntry → Type 0
HasOpen P es = (before : List FileEntry) × (first : FileEntry) × (after : List FileEntry)
    × (es ≡ before ++ first ∷ after) × AllByRecursion P before × (¬ P first)

first_open : (P : FileEntry → Type 0) → ((e : FileEntry) → P e ⊎ (¬ P e)) → (es : List FileEntry) → AllByRecursion P es ⊎ HasOpen P es
first_open P decide [] = inl tt
first_open P decide (e ∷ es) = elim (decide e) [
  | inr not ↦ inr ([], e, es, refl, tt, not)
  | inl is ↦ elim (first_open P decide es) [
    | inl all ↦ inl (is, all)
    | inr o ↦ inr (e ∷ o.0, o.1, o.2, ap (λ xs. e ∷ xs) o.3, (is, o.4), o.5)
  ]
]

-- an item of a list of which all are so
all_middle : (P : FileEntry → Type 0) (before : List FileEntry) (e : FileEntry) (after : List FileEntry) → AllByRecursion P (before ++ e ∷ after) → P e
all_middle P [] e after all = all.0
all_middle P (b ∷ before) e after all = all_middle P before e after all.1

-- the first that is open is one
one_place : (v : Version) (h : Contents) (other : Option Contents) (bytes : List ℕ) (m n : ℕ) → EndsFirstOpen v h other bytes m → EndsFirstOpen v h other bytes n → m ≡ n
one_place v h other bytes m n a b = go split.0 split.1 split.2
  where
    split : (middle : List FileEntry) × (b.before ≡ a.before ++ middle) × (a.first ∷ a.after ≡ middle ++ b.first ∷ b.after)
    split = after_all (LiesWhole (AreAllDigests h other) h.reel bytes) a.before (a.first ∷ a.after) b.before b.first b.after (sym a.split ∙ b.split) a.whole b.not_whole

    go : (middle : List FileEntry) → b.before ≡ a.before ++ middle → a.first ∷ a.after ≡ middle ++ b.first ∷ b.after → m ≡ n
    go [] same rest = grind (arith, append-nil)
    go (x ∷ middle) same rest =
        let one : a.first ≡ x = ap (λ xs. get_or xs 0 a.first) rest in
        absurd (a.not_whole (subst (LiesWhole (AreAllDigests h other) h.reel bytes) (sym one)
        (all_middle (LiesWhole (AreAllDigests h other) h.reel bytes) a.before x middle (subst (AllByRecursion (LiesWhole (AreAllDigests h other) h.reel bytes)) same b.whole))))

open_not_all : (v : Version) (h : Contents) (other : Option Contents) (bytes : List ℕ) (m : ℕ) → EndsFirstOpen v h other bytes m → AllByRecursion (LiesWhole (AreAllDigests h other) h.reel bytes) (file_entries h) → ⊥
open_not_all v h other bytes m a all = grind (arith, all_middle)

same_read_limit : (v : Version) (h : Contents) (other : Option Contents) (bytes : List ℕ) (m n : ℕ) → IsReadLimitOf v h other bytes m → IsReadLimitOf v h other bytes n → m ≡ n
same_read_limit v h other bytes m n (inl a) (inl b) = one_place v h other bytes m n a b
same_read_limit v h other bytes m n (inl a) (inr b) = absurd (open_not_all v h other bytes m a b.0)
same_read_limit v h other bytes m n (inr a) (inl b) = absurd (open_not_all v h other bytes n b a.0)
same_read_limit v h other bytes m n (inr a) (inr b) = a.1 ∙ sym b.1

has_read_limit : (v : Version) (h : Contents) (other : Option Contents) (bytes : List ℕ) → (read_limit : ℕ) × IsReadLimitOf v h other bytes read_limit
has_read_limit v h other bytes = elim (first_open (LiesWhole (AreAllDigests h other) h.reel bytes) (decide_whole (AreAllDigests h other) (decide_all_digests h other) h.reel bytes) (file_entries h)) [
  | inl all ↦ (length (file_text v h), inr (all, refl))
  | inr o ↦ (
    length (head_text v h.reel ++ entries_text v (o.0 ++ o.1 ∷ [])),
    inl (record {
      before = o.0;
      first = o.1;
      after = o.2;
      split = o.3;
      whole = o.4;
      not_whole = o.5;
      is_end = refl;
    }),
  )
]

pub one_read_limit : (v : Version) (h : Contents) (other : Option Contents) (bytes : List ℕ) → (read_limit : ℕ) × IsReadLimitOf v h other bytes read_limit × ((also : ℕ) → IsReadLimitOf v h other bytes also → also ≡ read_limit)
one_read_limit v h other bytes = let has = has_read_limit v h other bytes in (has.0, has.1, λ also is. same_read_limit v h other bytes also has.0 is has.1)
