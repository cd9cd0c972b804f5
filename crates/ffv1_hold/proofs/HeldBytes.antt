-- Bytes that are read over others, block after block: how they compare, and what stands where.
use Rattle.ffv1_hold.proofs.Common.{◌≡◌, ℕ, ◌+◌, ◌-◌, ◌≤◌, List, [], ◌∷◌, ◌++◌, length, take, drop, max, replicate, refl, sym, ap, ◌∙◌, arith, append_assoc, append-nil, length-append, length-drop, length-take-le, drop_at, nat_cmp_is, nat_cmp, ordering_then, Ordering, Less, Equal, Greater, cases_lt, take_all, drop_all, length-replicate, take_at, drop-drop, put_mid, bytes_cmp}
use Rattle.std.proofs.lemmas.List.{take-append-le}

-- ---- how they compare

then_then : (a b c : Ordering) → ordering_then a (ordering_then b c) ≡ ordering_then (ordering_then a b) c
then_then Less b c = refl
then_then Equal b c = refl
then_then Greater b c = refl

-- as many of the held bytes as a block has decide, and else the rest
pub bytes_cmp-append : (held block rest : List ℕ)
    → bytes_cmp held (block ++ rest) ≡ ordering_then (bytes_cmp (take (length block) held) block) (bytes_cmp (drop (length block) held) rest)
bytes_cmp-append held [] rest = refl
bytes_cmp-append [] (x ∷ block) rest = refl
bytes_cmp-append (h ∷ held) (x ∷ block) rest = grind (arith, then_then, bytes_cmp-append held block rest)

-- and so after bytes that decided so
pub then-bytes_cmp : (order : Ordering) (held block rest : List ℕ)
    → ordering_then order (bytes_cmp held (block ++ rest))
    ≡ ordering_then (ordering_then order (bytes_cmp (take (length block) held) block)) (bytes_cmp (drop (length block) held) rest)
then-bytes_cmp order held block rest = grind (arith, bytes_cmp-append, then_then)

-- where they are equal so far, the longer one is greater
more_held : (m n : ℕ) (xs : List ℕ) → n ≤ m → length xs ≡ m - n → bytes_cmp xs [] ≡ nat_cmp m n
more_held m n [] h is = nat_cmp_is m n Equal (omega (arith, is))
more_held m n (x ∷ xs) h is = nat_cmp_is m n Greater (omega (arith, is))

pub bytes_cmp-drop : (held : List ℕ) (n : ℕ) → n ≤ length held → bytes_cmp (drop n held) [] ≡ nat_cmp (length held) n
bytes_cmp-drop held n h = more_held (length held) n (drop n held) h (length-drop n held)

-- ---- a block over held bytes, where zeros stand after them up to its end

module _ (from n size : ℕ) (old : List ℕ) (within : from ≤ length old) (large : size ≡ max (length old) (from + n)) where
  abbrev zeros : List ℕ
  zeros = replicate (size - length old) 0

  abbrev grown : List ℕ
  grown = take size old ++ zeros

  grown_is : grown ≡ old ++ zeros
  grown_is = ap (λ t. t ++ zeros) (take_all size old (omega arith))

  drop-grown : drop (from + n) grown ≡ drop (from + n) old
  drop-grown = grind (arith, cases_lt, drop_all, grown_is, length-append, length-replicate, replicate, append-nil)

  -- the block in the place of these
  pub put_mid-grown : (block : List ℕ) → put_mid from n grown block ≡ take from old ++ block ++ drop (from + n) old
  put_mid-grown block = grind (arith, append_assoc, grown_is, take-append-le, drop-drop, drop-grown)

  -- and so where the whole vector is written back
  pub put_back : (len : ℕ) (now whole buf block : List ℕ) → now ≡ grown → whole ≡ now → buf ≡ block → length block ≡ n → len ≡ length now
      → take len (put_mid from ((from + n) - from) whole buf ++ drop (length (put_mid from ((from + n) - from) whole buf)) now)
      ≡ take from old ++ block ++ drop (from + length block) old
  put_back len now whole buf block now_is whole_is buf_is long all =
      let same : (from + n) - from ≡ n = omega arith in
      let put = put_mid from ((from + n) - from) whole buf in
      let put_is : put ≡ take from old ++ block ++ drop (from + n) old =
      (λ i. put_mid from (same i) ((whole_is ∙ now_is) i) (buf_is i)) ∙ put_mid-grown block in
      let whole_length : length put ≡ len = omega (
        arith,
        ap length put_is,
        all,
        ap length now_is,
        ap length grown_is,
        length-append old zeros,
        length-replicate {A = ℕ} (size - length old) 0,
        length-append (take from old ++ block) (drop (from + n) old),
        length-append (take from old) block,
        length-take-le from old within,
        length-drop (from + n) old,
        long,
      ) in
      take_at put _ len whole_length ∙ put_is ∙ ap (λ k. take from old ++ block ++ drop (from + k) old) (sym long)

-- ---- after a block

module _ (old items block next : List ℕ) (done : ℕ) (order : Ordering) (within : done ≤ length items)
    (is : next ≡ take done items ++ block ++ drop (done + length block) items)
    (so_far : (rest : List ℕ) → bytes_cmp old (take done items ++ rest) ≡ ordering_then order (bytes_cmp (drop done items) rest)) where
  front_long : length (take done items ++ block) ≡ done + length block
  front_long = omega (arith, length-append (take done items) block, length-take-le done items within)

  pub take-next : take (done + length block) next ≡ take done items ++ block
  take-next = ap (take (done + length block)) is ∙ take_at (take done items ++ block) _ (done + length block) front_long

  pub drop-next : drop (done + length block) next ≡ drop (length block) (drop done items)
  drop-next = grind (arith, drop_at, front_long, drop-drop)

  pub next_long : done + length block ≤ length next
  next_long = omega (arith, ap length is, length-append (take done items ++ block) (drop (done + length block) items), front_long)

  pub next_compares : (rest : List ℕ) → bytes_cmp old (take (done + length block) next ++ rest)
      ≡ ordering_then (ordering_then order (bytes_cmp (take (length block) (drop done items)) block)) (bytes_cmp (drop (done + length block) next) rest)
  next_compares rest = grind (arith, take-next, append_assoc, then-bytes_cmp, drop-next)

-- after the last one
pub all_compared : (old items : List ℕ) (done : ℕ) (order : Ordering) → done ≤ length items
    → ((rest : List ℕ) → bytes_cmp old (take done items ++ rest) ≡ ordering_then order (bytes_cmp (drop done items) rest))
    → ordering_then order (nat_cmp (length items) done) ≡ bytes_cmp old (take done items)
all_compared old items done order within so_far = cc (bytes_cmp-drop items done within, so_far [], append-nil (take done items))
