-- A write that failed, as a part of a longer one.
use Rattle.std.proofs.Common.{◌≡◌, ℕ, ◌-◌, List, [], ◌++◌, length, take, drop, Option, None, Some, refl, sym, ap, ◌∙◌, append_assoc, append-nil, take-append-drop}
use Rattle.std.proofs.lemmas.List.{take_rest}
use Rattle.std.specs.Io.KnownBytes.{Keeps, Appends}
use Rattle.std.proofs.KnownBytes.{Appends-trans}
use Rattle.ffv1_devices.specs.Writing.{WritesFront}

pub front-append : (a b : Option (List ℕ)) (xs ys : List ℕ) → WritesFront a b xs → WritesFront a b (xs ++ ys)
front-append a b xs ys w = record { done = w.done; rest = w.rest ++ ys; split = ap (λ l. l ++ ys) w.split ∙ append_assoc w.done w.rest ys; written = w.written }

pub front-after : (a b c : Option (List ℕ)) (xs ys : List ℕ) → Appends a b xs → WritesFront b c ys → WritesFront a c (xs ++ ys)
front-after a b c xs ys h w = record {
  done = xs ++ w.done;
  rest = w.rest;
  split = ap (λ l. xs ++ l) w.split ∙ sym (append_assoc xs w.done w.rest);
  written = Appends-trans a b c xs w.done h w.written;
}

appends_none : (a b : Option (List ℕ)) → Keeps a b → Appends a b []
appends_none None b p = tt
appends_none (Some x) None p = absurd p
appends_none (Some x) (Some y) p = p ∙ sym (append-nil x)

-- nothing was written
pub front_none : (a b : Option (List ℕ)) → Keeps a b → WritesFront a b []
front_none a b kept = record { done = []; rest = []; split = refl; written = appends_none a b kept }

-- what was written, with n items more, and what is still to come
pub moves_front : (all done rest : List ℕ) (n : ℕ) → all ≡ done ++ rest → all ≡ (done ++ take n rest) ++ take (length rest - n) (drop n rest)
moves_front all done rest n e =
    e ∙ ap (λ l. done ++ l) (sym (take-append-drop n rest)) ∙ sym (append_assoc done (take n rest) (drop n rest))
    ∙ ap (λ l. (done ++ take n rest) ++ l) (sym (take_rest rest n))
