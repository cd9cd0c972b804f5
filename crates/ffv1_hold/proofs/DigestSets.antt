-- The digests of a slice, as a rising list: what it has, and when two are the same.
use Rattle.ffv1_hold.proofs.Common.{◌≡◌, ℕ, zero, suc, ◌<◌, cond, Bool, true, false, ◌||◌, ◌&&◌, List, [], ◌∷◌, length, map, get_or, refl, sym, ap, ◌∙◌, arith, or_left, or_right, and-false, list_any, filter, AllByRecursion, ordering_then, is_eq, eq_by_cmp, Equal-is, tied_itself, Ordering, Less, Entry, Origin, with_each, bytes_cmp, entry_cmp, origin_cmp, bytes_total, bytes_antisymmetric, entries_total, entries_antisymmetric, origins_total, IsRising, digests_in, rising_rest, items-from_list, items-rising, both_tie, IsDigest}
use Rattle.ffv1_holding.specs.Sets as set

-- whether a digest is one of them
abbrev pub has : List (List ℕ) → List ℕ → Bool
has digests d = list_any (eq_by_cmp bytes_cmp d) digests

-- ---- ties

pub entry_tie : (q e : Entry) → eq_by_cmp entry_cmp q e ≡ true → q ≡ e
entry_tie q e tie = entries_antisymmetric q e ((Equal-is (entry_cmp q e)).0 tie)

pub entry_self : (q : Entry) → eq_by_cmp entry_cmp q q ≡ true
entry_self q = ap is_eq (tied_itself entries_total q)

pub digest_tie : (c d : List ℕ) → eq_by_cmp bytes_cmp c d ≡ true → c ≡ d
digest_tie c d tie = bytes_antisymmetric c d ((Equal-is (bytes_cmp c d)).0 tie)

-- ---- what they have

-- what is so of each digest that they have is so of all
pub has_all : (xs : List (List ℕ)) → ((d : List ℕ) → has xs d ≡ true → IsDigest d) → AllByRecursion IsDigest xs
has_all [] each = tt
has_all (x ∷ xs) each = (
  each x (or_left (eq_by_cmp bytes_cmp x x) (has xs x) (ap is_eq (tied_itself bytes_total x))),
  has_all xs (λ d there. each d (or_right (eq_by_cmp bytes_cmp d x) (has xs d) there)),
)

any_digest : (e : Entry) (d : List ℕ) (xs : List Origin) → has (map (λ o. o.1) (filter (λ o. eq_by_cmp entry_cmp e o.0) xs)) d
    ≡ list_any (eq_by_cmp origin_cmp (e, d)) xs
any_digest e d [] = refl
any_digest e d (x ∷ xs) = grind (arith, both_tie, any_digest e d xs)

pub has-digests_in : (origins : set.SetOf origin_cmp) (e : Entry) (d : List ℕ) → has (digests_in origins e) d ≡ set.contains origins (e, d)
unfolding digests_in
has-digests_in origins e d = any_digest e d (set.items origins) ∙ sym (set.contains-items origins (e, d))

pub any-with_each : (q e : Entry) (d : List ℕ) (ds : List (List ℕ)) → list_any (eq_by_cmp origin_cmp (q, d)) (with_each e ds)
    ≡ (eq_by_cmp entry_cmp q e && has ds d)
any-with_each q e d [] = sym (and-false (eq_by_cmp entry_cmp q e))
any-with_each q e d (c ∷ ds) =
    (λ i. both_tie (entry_cmp q e) (bytes_cmp d c) i || any-with_each q e d ds i)
    ∙ and_shared (eq_by_cmp entry_cmp q e) (eq_by_cmp bytes_cmp d c) (has ds d)
  where
    and_shared : (a b c : Bool) → ((a && b) || (a && c)) ≡ (a && (b || c))
    and_shared true b c = refl
    and_shared false b c = refl

pub has-with_each : (q e : Entry) (d : List ℕ) (ds : List (List ℕ)) → set.contains (set.from_list {R = origin_cmp} (with_each e ds)) (q, d)
    ≡ (eq_by_cmp entry_cmp q e && has ds d)
has-with_each q e d ds = set.contains-from_list origins_total (with_each e ds) (q, d) ∙ any-with_each q e d ds

-- ---- their order

pub rising_cons : (x : List ℕ) (ys : List (List ℕ)) → IsRising bytes_cmp ys → ((j : ℕ) (d : List ℕ) → j < length ys → bytes_cmp x (get_or ys j d) ≡ Less)
    → IsRising bytes_cmp (x ∷ ys)
rising_cons x ys up low i zero d lt in_range = absurd (omega arith)
rising_cons x ys up low zero (suc j) d lt in_range = low j d (omega arith)
rising_cons x ys up low (suc i) (suc j) d lt in_range = up i j d (omega arith) (omega arith)

then_less : (e f : Entry) (b : Ordering) → e ≡ f → ordering_then (entry_cmp e f) b ≡ Less → b ≡ Less
then_less e f b same less =
    ap (λ o. ordering_then o b) (sym (tied_itself entries_total f) ∙ ap (λ (x : Entry). entry_cmp x f) (sym same)) ∙ less

low_cons : (x y : List ℕ) (ys : List (List ℕ)) → bytes_cmp x y ≡ Less → ((j : ℕ) (d : List ℕ) → j < length ys → bytes_cmp x (get_or ys j d) ≡ Less)
    → (j : ℕ) (d : List ℕ) → j < length (y ∷ ys) → bytes_cmp x (get_or (y ∷ ys) j d) ≡ Less
low_cons x y ys here low zero d lt = here
low_cons x y ys here low (suc j) d lt = low j d (omega arith)

-- the digests of a slice among origins
abbrev digests_among : Entry → List Origin → List (List ℕ)
digests_among e xs = map (λ o. o.1) (filter (λ o. eq_by_cmp entry_cmp e o.0) xs)

low_filter : (e : Entry) (x : Origin) → x.0 ≡ e → (xs : List Origin) → ((j : ℕ) (o : Origin) → j < length xs → origin_cmp x (get_or xs j o) ≡ Less)
    → (j : ℕ) (d : List ℕ) → j < length (digests_among e xs) → bytes_cmp x.1 (get_or (digests_among e xs) j d) ≡ Less
low_filter e x same [] low = λ j d lt. absurd (omega arith)
low_filter e x same (y ∷ ys) low = elim (eq_by_cmp entry_cmp e y.0) as (λ b. eq_by_cmp entry_cmp e y.0 ≡ b → (j : ℕ) (d : List ℕ)
    → j < length (map (λ o. o.1) (cond b (y ∷ filter (λ o. eq_by_cmp entry_cmp e o.0) ys) (filter (λ o. eq_by_cmp entry_cmp e o.0) ys)))
    → bytes_cmp x.1 (get_or (map (λ o. o.1) (cond b (y ∷ filter (λ o. eq_by_cmp entry_cmp e o.0) ys)
    (filter (λ o. eq_by_cmp entry_cmp e o.0) ys))) j d) ≡ Less) [
      | true ↦ λ is. low_cons x.1 y.1 _ (then_less x.0 y.0 (bytes_cmp x.1 y.1) (same ∙ entry_tie e y.0 is) (low 0 y (omega arith)))
          (low_filter e x same ys (λ k o less. low (suc k) o (omega arith)))
      | false ↦ λ is. low_filter e x same ys (λ k o less. low (suc k) o (omega arith))
    ] refl

rising_filter : (e : Entry) (xs : List Origin) → IsRising origin_cmp xs → IsRising bytes_cmp (map (λ o. o.1) (filter (λ o. eq_by_cmp entry_cmp e o.0) xs))
rising_filter e [] up = λ i j d lt in_range. absurd (omega arith)
rising_filter e (x ∷ xs) up = elim (eq_by_cmp entry_cmp e x.0) as (λ b. eq_by_cmp entry_cmp e x.0 ≡ b
    → IsRising bytes_cmp (map (λ o. o.1) (cond b (x ∷ filter (λ o. eq_by_cmp entry_cmp e o.0) xs) (filter (λ o. eq_by_cmp entry_cmp e o.0) xs)))) [
      | true ↦ λ is. rising_cons x.1 _ (rising_filter e xs (rising_rest origin_cmp x xs up))
          (low_filter e x (sym (entry_tie e x.0 is)) xs (λ j o lt. up 0 (suc j) o (omega arith) (omega arith)))
      | false ↦ λ is. rising_filter e xs (rising_rest origin_cmp x xs up)
    ] refl

pub digests_rise : (origins : set.SetOf origin_cmp) (e : Entry) → IsRising bytes_cmp (digests_in origins e)
unfolding digests_in
digests_rise origins e = rising_filter e (set.items origins) (items-rising origins)

-- ---- rising lists that have the same digests

pub same_digests : (ds es : List (List ℕ)) → IsRising bytes_cmp ds → IsRising bytes_cmp es → ((d : List ℕ) → has ds d ≡ has es d) → ds ≡ es
same_digests ds es ds_up es_up same =
    sym (items-from_list bytes_total ds ds_up)
    ∙ ap set.items (set.same_set bytes_total bytes_antisymmetric (set.from_list ds) (set.from_list es) (λ d. set.contains-from_list bytes_total ds d ∙ same d
    ∙ sym (set.contains-from_list bytes_total es d)))
    ∙ items-from_list bytes_total es es_up
