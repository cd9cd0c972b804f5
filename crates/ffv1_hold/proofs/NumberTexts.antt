-- Lists, and numbers before more bytes, are read in one way only.
use Rattle.ffv1_hold.proofs.Common.{◌≡◌, ◌≢◌, ℕ, ◌<◌, ◌^◌, List, ◌∷◌, ◌++◌, length, take, drop, get_or, sym, ap, ◌∙◌, w16, w32, from_be_bytes, from_be_bytes-to_be_bytes_2, from_be_bytes-to_be_bytes_4, take-append_seam, drop-append_seam, be2, be4}
use Rattle.ffv1_hold.proofs.Bodies.{length-be4}

-- ---- lists that begin alike

pub same_front : (a b x y : List ℕ) → length a ≡ length b → a ++ x ≡ b ++ y → a ≡ b
same_front a b x y len e = sym (take-append_seam a x) ∙ ap (take (length a)) e ∙ ap (λ n. take n (b ++ y)) len ∙ take-append_seam b y

pub same_back : (a b x y : List ℕ) → length a ≡ length b → a ++ x ≡ b ++ y → x ≡ y
same_back a b x y len e = sym (drop-append_seam a x) ∙ ap (drop (length a)) e ∙ ap (λ n. drop n (b ++ y)) len ∙ drop-append_seam b y

pub no_tag : (x y : List ℕ) (m n : ℕ) → m ∷ x ≡ n ∷ y → m ≢ n → ⊥
no_tag x y m n e other = other (ap (λ xs. get_or xs 0 0) e)

pub rest_same : (x y : List ℕ) (m n : ℕ) → m ∷ x ≡ n ∷ y → x ≡ y
rest_same x y m n e = ap (drop 1) e

-- ---- numbers

pub be2_same : (m n : ℕ) → m < 2 ^ 16 → n < 2 ^ 16 → be2 m ≡ be2 n → m ≡ n
unfolding be2
be2_same m n p q e = sym (from_be_bytes-to_be_bytes_2 m p) ∙ ap (from_be_bytes w16) e ∙ from_be_bytes-to_be_bytes_2 n q

pub be4_same : (m n : ℕ) → m < 2 ^ 32 → n < 2 ^ 32 → be4 m ≡ be4 n → m ≡ n
unfolding be4
be4_same m n p q e = sym (from_be_bytes-to_be_bytes_4 m p) ∙ ap (from_be_bytes w32) e ∙ from_be_bytes-to_be_bytes_4 n q

-- a number of four bytes before more bytes
module _ (m n : ℕ) (x y : List ℕ) (e : be4 m ++ x ≡ be4 n ++ y) where
  pub number_same : m < 2 ^ 32 → n < 2 ^ 32 → m ≡ n
  number_same p q = be4_same m n p q (same_front (be4 m) (be4 n) x y (length-be4 m ∙ sym (length-be4 n)) e)

  pub after_number : x ≡ y
  after_number = same_back (be4 m) (be4 n) x y (length-be4 m ∙ sym (length-be4 n)) e
