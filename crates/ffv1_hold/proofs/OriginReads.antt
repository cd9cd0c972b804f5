-- How reading the digests after a slice goes on after those that were read.
use Rattle.ffv1_hold.proofs.Common.{◌≡◌, ℕ, zero, suc, ◌-◌, ◌<◌, ◌≤◌, ◌==◌, IsTrue, rules, slice_get, List, [], ◌∷◌, ◌++◌, length, get_or, Some, refl, sym, ap, ◌∙◌, subst, inr, arith, append_assoc, ordering_index, Ordering, Less, Equal, Greater, bytes_cmp, bytes_total, IsRising, rising_rest, rising-append, rising_one, HoldFileFault, origins_limit, be4, origins_text, last_of, FollowsDigest, IsDigest, AreOrigins, IsPartOfOrigins, OriginsShow, DigestShows, TakesDigest, ReadLog, TakesText, IsShorter, Never, StopsAt}
use Rattle.ffv1_hold.specs.declared.file_fault.HoldFileFault.TheVariants as faults
use Rattle.ffv1_hold.proofs.TextReads.{TakesText-trans, StopsAt-after}
use Rattle.ffv1_hold.proofs.DigestTexts.{whole, whole-push, all_push}

-- what stands after the last digest is above all
above_digests : (xs : List (List ℕ)) (e : List ℕ) → IsRising bytes_cmp xs → FollowsDigest (last_of xs) e → (i : ℕ) (d : List ℕ) → i < length xs
    → bytes_cmp (get_or xs i d) e ≡ Less
above_digests [] e up follows i d lt = absurd (omega arith)
above_digests (x ∷ []) e up follows zero d lt = follows
above_digests (x ∷ []) e up follows (suc i) d lt = absurd (omega arith)
above_digests (x ∷ y ∷ zs) e up follows zero d lt =
    cc (bytes_total.trans x y e (up 0 1 d (omega arith) (omega arith)) (above_digests (y ∷ zs) e (rising_rest bytes_cmp x (y ∷ zs) up) follows 0 d (omega arith)))
above_digests (x ∷ y ∷ zs) e up follows (suc i) d lt = above_digests (y ∷ zs) e (rising_rest bytes_cmp x (y ∷ zs) up) follows i d (omega arith)

-- the last digest, as a slice's last item
pub last_of-get : (xs : List (List ℕ)) (d : List ℕ) → Some d ≡ slice_get xs (length xs - 1) → last_of xs ≡ Some d
last_of-get [] d is = absurd (cc)
last_of-get (x ∷ []) d is = sym is
last_of-get (x ∷ y ∷ zs) d is =
    let place : length (x ∷ y ∷ zs) - 1 ≡ suc (length (y ∷ zs) - 1) = omega arith in
    last_of-get (y ∷ zs) d (is ∙ ap (slice_get (x ∷ y ∷ zs)) place)

pub index_less : (o : Ordering) → IsTrue (ordering_index o == 0) → o ≡ Less
index_less Less h = refl
index_less Equal h = absurd (search rules)
index_less Greater h = absurd (search rules)

pub less_index : (o : Ordering) → o ≡ Less → IsTrue (ordering_index o == 0)
less_index Less h = search rules
less_index Equal h = absurd (cc)
less_index Greater h = absurd (cc)

pub origins_none : AreOrigins []
origins_none = record { each = tt; rising = λ i j d lt in_range. absurd (omega arith) }

-- one digest more
pub origins_push : (ds : List (List ℕ)) (d : List ℕ) → AreOrigins ds → IsDigest d → FollowsDigest (last_of ds) d → AreOrigins (ds ++ d ∷ [])
origins_push ds d are is follows = record {
  each = all_push ds d are.each is;
  rising = rising-append bytes_cmp ds (d ∷ []) are.rising (rising_one bytes_cmp d)
      (λ i j x lt here. subst (λ k. bytes_cmp (get_or ds i x) (get_or (d ∷ []) k x) ≡ Less) {x = 0} {y = j} (omega arith)
      (above_digests ds d are.rising follows i x lt));
}

module _ (a b c : ReadLog) (i j : ℕ) (n : ℕ) (ds : List (List ℕ)) (t : TakesText a b i j (be4 n ++ whole ds)) where
  pub text_push : (k : ℕ) (es : List (List ℕ)) → TakesDigest b c j k ds es → TakesText a c i k (be4 n ++ whole es)
  text_push k es one =
      subst (TakesText a c i k) (append_assoc (be4 n) (whole ds) one.digest ∙ ap (λ x. be4 n ++ x) (sym (whole-push ds one.digest)
      ∙ ap whole (sym one.pushed))) (TakesText-trans _ _ _ _ _ _ _ _ t one.text)

  -- the next digest is refused
  pub digest_refused : (f : HoldFileFault) → AreOrigins ds → n ≤ origins_limit → length ds < n
      → StopsAt (IsShorter 32) Never (DigestShows (last_of ds)) b c j f → StopsAt IsPartOfOrigins Never OriginsShow a c i f
  digest_refused f are few less refused =
      StopsAt-after (IsShorter 32) IsPartOfOrigins Never Never (DigestShows (last_of ds)) OriginsShow a b c i j (be4 n ++ whole ds) t f refused
      (λ s short. inr (n, ds, s, refl, few, are, less, short)) (λ f s h. h) shows
    where
      shows : (f : HoldFileFault) (s : List ℕ) → DigestShows (last_of ds) f s → OriginsShow f ((be4 n ++ whole ds) ++ s)
      shows faults.Order s h = (n, ds, s, refl, few, are, less, h.0, h.1)
      shows _ s h = absurd h

pub pushed_origins : (a b : ReadLog) (i j : ℕ) (ds es : List (List ℕ)) → TakesDigest a b i j ds es → AreOrigins ds → AreOrigins es
pushed_origins a b i j ds es one are = subst AreOrigins (sym one.pushed) (origins_push ds one.digest are one.is one.follows)

pub origins_text-of : (ds : List (List ℕ)) (n : ℕ) → length ds ≡ n → be4 n ++ whole ds ≡ origins_text ds
unfolding origins_text
origins_text-of ds n is = ap (λ k. be4 k ++ whole ds) (sym is)
