-- Lines list stretches once, and what one line more lists.
use Rattle.std.proofs.Common.{◌≡◌, ℕ, ◌+◌, ◌≤◌, List, [], ◌∷◌, ◌++◌, length, map, replicate, refl, sym, ap, ◌∙◌, subst, arith}
use Rattle.std.proofs.Common.{Bool, true, false, Result, Ok, Err}
use Rattle.std.specs.Prelude.{IfOk, MatchBool}
use Rattle.std.proofs.Common.{◌<◌, ◌⊎◌, inl, inr}
use Rattle.std.proofs.lemmas.List.{length-map, length-append, length-replicate}
use Rattle.std.proofs.lemmas.List.Sums.{fold-append}
use Rattle.ffv1_texts.specs.Words.{AreWords}
use Rattle.ffv1_texts.proofs.WordSteps.{words_are_one}
use Rattle.ffv1_mend.specs.declared.part.Part.{Part}
use Rattle.ffv1_stretches.specs.Stretches.{StretchValue, FollowsStretch, ends_after, ends_of}
use Rattle.ffv1_stretches.specs.Listed.{AreStretchWords, ArePartWords, IsNextPart, with_part, AreListed}
use Rattle.ffv1_stretches.specs.Inner.ListSteps.{BeginsPart, AddsPart, AddsNoPart, IsNextStretch, AddsStretch, AddsNoStretch, IsListedTo, AddsLine}
use Rattle.ffv1_stretches.specs.Inner.Ends.{end_of}
use Rattle.ffv1_stretches.specs.declared.ends.End.{End}
use Rattle.ffv1_stretches.proofs.EndSteps.{length-moved_ends}
use Rattle.ffv1_stretches.proofs.WordLemmas.{one_stretch, one_part, stretch_is_no_part, part_begins}

nil_is_no_push : {X : Type 0} (xs : List X) (x : X) → [] ≡ xs ++ x ∷ [] → ⊥
nil_is_no_push [] x e = absurd (omega (arith, ap length e))
nil_is_no_push (y ∷ xs) x e = absurd (omega (arith, ap length e))

pub same_last : {X : Type 0} (xs ys : List X) (x y : X) → xs ++ x ∷ [] ≡ ys ++ y ∷ [] → (xs ≡ ys) × (x ≡ y)
same_last [] [] x y e = (refl, let h : x ≡ y = cc in h)
same_last [] (b ∷ ys) x y e = absurd (nil_is_no_push ys y (let h : [] ≡ ys ++ y ∷ [] = cc in h))
same_last (a ∷ xs) [] x y e = absurd (nil_is_no_push xs x (let h : [] ≡ xs ++ x ∷ [] = cc in h))
same_last (a ∷ xs) (b ∷ ys) x y e =
    let heads : a ≡ b = cc in
    let tails : xs ++ x ∷ [] ≡ ys ++ y ∷ [] = cc in
    let rest = same_last xs ys x y tails in
    let both : a ∷ xs ≡ b ∷ ys = cc (heads, rest.0) in
    (both, rest.1)

-- ---- where the stretches end

pub ends_of-push : (copies : ℕ) (stretches : List StretchValue) (next : StretchValue)
    → ends_of copies (stretches ++ next ∷ []) ≡ ends_after (ends_of copies stretches) next
ends_of-push copies stretches next = fold-append ends_after (replicate copies 0) stretches (next ∷ [])

-- ---- what the last line adds

-- The last of some lines is a stretch or a part.
pub data LastLine (copies : ℕ) (lines : List (List ℕ)) (line : List ℕ) (all : List StretchValue) : Type 0 where
  by_stretch : (stretches : List StretchValue) (words : List (List ℕ)) (next : StretchValue) → AreListed copies lines stretches → AreWords line words
      → AreStretchWords copies words next → FollowsStretch (ends_of copies stretches) next → all ≡ stretches ++ next ∷ [] → LastLine copies lines line all
  by_part : (stretches : List StretchValue) (last : StretchValue) (words : List (List ℕ)) (next : Part) → AreListed copies lines (stretches ++ last ∷ [])
      → AreWords line words → ArePartWords words next → IsNextPart last next → all ≡ stretches ++ with_part last next ∷ []
      → LastLine copies lines line all

last_of : (copies : ℕ) (lines whole : List (List ℕ)) (line : List ℕ) (all : List StretchValue) → AreListed copies whole all → whole ≡ lines ++ line ∷ []
    → LastLine copies lines line all
last_of copies lines whole line all AreListed.none e = absurd (nil_is_no_push lines line e)
last_of copies lines whole line all (AreListed.stretch ls sts l ws n listed are is after) e =
    let same = same_last ls lines l line e in
    LastLine.by_stretch sts ws n (subst (λ xs. AreListed copies xs sts) same.0 listed) (subst (λ x. AreWords x ws) same.1 are) is after refl
last_of copies lines whole line all (AreListed.part ls sts last l ws n listed are is after) e =
    let same = same_last ls lines l line e in
    LastLine.by_part sts last ws n (subst (λ xs. AreListed copies xs (sts ++ last ∷ [])) same.0 listed) (subst (λ x. AreWords x ws) same.1 are) is after refl

pub last_line : (copies : ℕ) (lines : List (List ℕ)) (line : List ℕ) (all : List StretchValue) → AreListed copies (lines ++ line ∷ []) all
    → LastLine copies lines line all
last_line copies lines line all listed = last_of copies lines (lines ++ line ∷ []) line all listed refl

no_lines_list : (copies : ℕ) (lines : List (List ℕ)) (all : List StretchValue) → AreListed copies lines all → lines ≡ [] → [] ≡ all
no_lines_list copies lines all AreListed.none e = refl
no_lines_list copies lines all (AreListed.stretch ls sts l ws n listed are is after) e = absurd (nil_is_no_push ls l (sym e))
no_lines_list copies lines all (AreListed.part ls sts last l ws n listed are is after) e = absurd (nil_is_no_push ls l (sym e))

-- lines list stretches once
pub listed_once : (copies : ℕ) (lines : List (List ℕ)) (all others : List StretchValue) → AreListed copies lines all → AreListed copies lines others
    → all ≡ others
listed_once copies lines all others AreListed.none also = no_lines_list copies [] others also refl
listed_once copies lines all others (AreListed.stretch ls sts l ws n listed are is after) also = elim (last_line copies ls l others also) [
  | LastLine.by_stretch sts' ws' n' listed' are' is' after' e ↦
      let stretches : sts ≡ sts' = listed_once copies ls sts sts' listed listed' in
      let words : ws' ≡ ws = words_are_one l ws' ws are' are in
      let next : n ≡ n' = one_stretch copies ws n n' is (subst (λ w. AreStretchWords copies w n') words is') in
      let both : sts ++ n ∷ [] ≡ sts' ++ n' ∷ [] = cc in
      both ∙ sym e
  | LastLine.by_part sts' last' ws' n' listed' are' is' after' e ↦
      let words : ws ≡ ws' = words_are_one l ws ws' are are' in
      absurd (stretch_is_no_part copies ws' n (subst (λ w. AreStretchWords copies w n) words is) (part_begins ws' n' is'))
]
listed_once copies lines all others (AreListed.part ls sts last l ws n listed are is after) also = elim (last_line copies ls l others also) [
  | LastLine.by_stretch sts' ws' n' listed' are' is' after' e ↦
      let words : ws' ≡ ws = words_are_one l ws' ws are' are in
      absurd (stretch_is_no_part copies ws n' (subst (λ w. AreStretchWords copies w n') words is') (part_begins ws n is))
  | LastLine.by_part sts' last' ws' n' listed' are' is' after' e ↦
      let before = same_last sts sts' last last' (listed_once copies ls (sts ++ last ∷ []) (sts' ++ last' ∷ []) listed listed') in
      let words : ws' ≡ ws = words_are_one l ws' ws are' are in
      let next : n ≡ n' = one_part ws n n' is (subst (λ w. ArePartWords w n') words is') in
      let stretches : sts ≡ sts' = before.0 in
      let lasts : last ≡ last' = before.1 in
      let both : sts ++ with_part last n ∷ [] ≡ sts' ++ with_part last' n' ∷ [] =
      ap (λ xs. xs ++ with_part last n ∷ []) stretches ∙ ap (λ s. sts' ++ with_part s n ∷ []) lasts ∙ ap (λ p. sts' ++ with_part last' p ∷ []) next in
      both ∙ sym e
]

-- ---- a line more

module _ (copies : ℕ) (lines : List (List ℕ)) (line : List ℕ) (words : List (List ℕ)) (old : List StretchValue) (ends : List ℕ)
    (listed : AreListed copies lines old) (are : AreWords line words) where
  -- it is a stretch
  pub stretch_more : ends ≡ ends_of copies old → length ends ≡ copies → (next : StretchValue) → IsNextStretch ends words next
      → AreListed copies (lines ++ line ∷ []) (old ++ next ∷ [])
  stretch_more where_ends long next is =
      AreListed.stretch lines old line words next listed are (subst (λ n. AreStretchWords n words next) long is.words')
      (subst (λ es. FollowsStretch es next) where_ends is.follows)

  -- it is none, and no part
  pub stretch_no_more : ends ≡ ends_of copies old → length ends ≡ copies → (BeginsPart words → ⊥) → AddsNoStretch words ends
      → (others : List StretchValue) → AreListed copies (lines ++ line ∷ []) others → ⊥
  stretch_no_more where_ends long no_part none others also = elim (last_line copies lines line others also) [
    | LastLine.by_stretch sts ws n listed' are' is after e ↦
        let stretches : sts ≡ old = listed_once copies lines sts old listed' listed in
        let same : ws ≡ words = words_are_one line ws words are' are in
        none n (record {
          words' = subst (λ c. AreStretchWords c words n) (sym long) (subst (λ w. AreStretchWords copies w n) same is);
          follows = subst (λ es. FollowsStretch es n) (ap (ends_of copies) stretches ∙ sym where_ends) after;
        })
    | LastLine.by_part sts last ws n listed' are' is after e ↦
        no_part (subst BeginsPart (words_are_one line ws words are' are) (part_begins ws n is))
  ]

  -- it is a part
  pub part_more : (new : List StretchValue) → AddsPart words old new → AreListed copies (lines ++ line ∷ []) new
  part_more new adds = subst (AreListed copies (lines ++ line ∷ [])) (sym adds.now)
      (AreListed.part lines adds.before adds.last line words adds.part (subst (AreListed copies lines) adds.was listed) are adds.is.words' adds.is.next)

  -- it begins as one, and is none
  pub part_no_more : BeginsPart words → AddsNoPart words old → (others : List StretchValue) → AreListed copies (lines ++ line ∷ []) others → ⊥
  part_no_more begins none others also = elim (last_line copies lines line others also) [
    | LastLine.by_stretch sts ws n listed' are' is after e ↦
        stretch_is_no_part copies words n (subst (λ w. AreStretchWords copies w n) (words_are_one line ws words are' are) is) begins
    | LastLine.by_part sts last ws n listed' are' is after e ↦
        none sts last n (listed_once copies lines old (sts ++ last ∷ []) listed listed') (record {
          words' = subst (λ w. ArePartWords w n) (words_are_one line ws words are' are) is;
          next = after;
        })
  ]

-- ---- what adding a line does, as it is returned

module _ {E : Type 0} (line : List ℕ) (words : List (List ℕ)) (ends : List End) (old new : List StretchValue) (are : AreWords line words)
    (listed_to : IsListedTo ends old) where
  -- a line that begins as a part
  pub part_adds : BeginsPart words → (r : Result Bool E) → IfOk r (λ added. MatchBool added (AddsPart words old new) (AddsNoPart words old))
      → IfOk r (AddsLine (length ends) line old new)
  part_adds begins (Ok true) adds = λ lines listed. part_more (length ends) lines line words old (map end_of ends) listed are new adds
  part_adds begins (Ok false) none = λ lines listed. part_no_more (length ends) lines line words old (map end_of ends) listed are begins none
  part_adds begins (Err e) h = tt

  -- a line that does not
  pub stretch_adds : (BeginsPart words → ⊥) → (next_ends : List ℕ) → (r : Result Bool E)
      → IfOk r (λ added. MatchBool added (AddsStretch words old new (map end_of ends) next_ends) (AddsNoStretch words (map end_of ends)))
      → IfOk r (AddsLine (length ends) line old new)
  stretch_adds no_part next_ends (Ok true) adds = λ lines listed.
      subst (AreListed (length ends) (lines ++ line ∷ [])) (sym adds.now)
      (stretch_more (length ends) lines line words old (map end_of ends) listed are listed_to (length-map ends end_of) adds.next adds.is)
  stretch_adds no_part next_ends (Ok false) none = λ lines listed.
      stretch_no_more (length ends) lines line words old (map end_of ends) listed are listed_to (length-map ends end_of) no_part none
  stretch_adds no_part next_ends (Err e) h = tt

  -- and the ends are those of one more
  pub stretch_moves : (next : List End) → (r : Result Bool E)
      → IfOk r (λ added. MatchBool added (AddsStretch words old new (map end_of ends) (map end_of next)) (AddsNoStretch words (map end_of ends)))
      → IfOk r (λ added. MatchBool added (IsListedTo next new) (Unit {0}))
  stretch_moves next (Ok true) adds =
      let as_many : length next ≡ length ends =
      sym (length-map next end_of) ∙ ap length adds.ends'' ∙ length-moved_ends adds.next.size (map end_of ends) adds.next.places
      (adds.is.words'.count) ∙ length-map ends end_of in
      adds.ends'' ∙ ap (λ es. ends_after es adds.next) listed_to ∙ sym (ends_of-push (length ends) old adds.next)
      ∙ ap (ends_of (length ends)) (sym adds.now) ∙ ap (λ n. ends_of n new) (sym as_many)
  stretch_moves next (Ok false) none = tt
  stretch_moves next (Err e) h = tt

  pub stretch_counts : (next : List End) → (r : Result Bool E)
      → IfOk r (λ added. MatchBool added (AddsStretch words old new (map end_of ends) (map end_of next)) (AddsNoStretch words (map end_of ends)))
      → IfOk r (λ added. MatchBool added (length next ≡ length ends) (Unit {0}))
  stretch_counts next (Ok true) adds =
      sym (length-map next end_of) ∙ ap length adds.ends'' ∙ length-moved_ends adds.next.size (map end_of ends) adds.next.places
      (adds.is.words'.count) ∙ length-map ends end_of
  stretch_counts next (Ok false) none = tt
  stretch_counts next (Err e) h = tt

-- ---- before the first line

pub length-listed_none : (copies : ℕ) (ends : List End) → map end_of ends ≡ replicate copies 0 → length ends ≡ copies
length-listed_none copies ends none = sym (length-map ends end_of) ∙ ap length none ∙ length-replicate copies 0

pub listed_to_none : (copies : ℕ) (ends : List End) → map end_of ends ≡ replicate copies 0 → IsListedTo ends []
listed_to_none copies ends none = none ∙ ap (λ n. replicate n 0) (sym (length-listed_none copies ends none))

-- what stands after the first line of a text is shorter
pub line_shorter : (text line rest : List ℕ) → 0 < length text → (text ≡ line ++ 10 ∷ rest) ⊎ ((text ≡ line) × (rest ≡ [])) → length rest + 1 ≤ length text
line_shorter text line rest some (inl feed) = omega (arith, ap length feed, length-append line (10 ∷ rest))
line_shorter text line rest some (inr last) = omega (arith, some, ap length last.1)
