-- Sources that are read in turn.
use Rattle.std.proofs.Common.{◌≡◌, ◌<◌, ℕ, zero, suc, List, [], ◌∷◌, ◌++◌, length, get_or, set, map, refl, sym, subst, arith}
use Rattle.std.proofs.lemmas.List.{length-map, get_or-map, map-set}
use Rattle.ffv1_devices.specs.Logs.{ReadLog}
use Rattle.ffv1_player.specs.Payloads.{TakesWhole, AreReadInTurn, AreReadUpTo}

-- the next source went so
up_to : (Went : ReadLog → ReadLog → Type 0) (olds news : List ReadLog) (payloads : List (List ℕ)) (place : ℕ) (d new : ReadLog) → place ≡ length payloads
    → place < length olds → AreReadInTurn olds news payloads → Went (get_or news place d) new → AreReadUpTo Went olds (set news place new) payloads
up_to Went [] news payloads place d new is lt read went = let e : ⊥ = omega arith in absurd e
up_to Went (o ∷ olds) news [] zero d new is lt read went =
    subst (λ (ns : List ReadLog). Went (get_or ns 0 d) new → AreReadUpTo Went (o ∷ olds) (set ns 0 new) []) (sym read) (λ w. (w, refl)) went
up_to Went (o ∷ olds) news [] (suc place) d new is lt read went = let e : ⊥ = omega arith in absurd e
up_to Went (o ∷ olds) [] (p ∷ ps) place d new is lt read went = absurd read
up_to Went (o ∷ olds) (n ∷ news) (p ∷ ps) zero d new is lt read went = let e : ⊥ = omega arith in absurd e
up_to Went (o ∷ olds) (n ∷ news) (p ∷ ps) (suc place) d new is lt read went =
    (read.0, up_to Went olds news ps place d new (omega arith) (omega arith) read.1 went)

-- it was read whole, as this payload
pub in_turn : (payload : List ℕ) (olds news : List ReadLog) (payloads : List (List ℕ)) → AreReadUpTo (λ old new. TakesWhole old new payload) olds news payloads
    → AreReadInTurn olds news (payloads ++ payload ∷ [])
in_turn payload [] news payloads read = absurd read
in_turn payload (o ∷ olds) [] payloads read = absurd read
in_turn payload (o ∷ olds) (n ∷ news) [] read = read
in_turn payload (o ∷ olds) (n ∷ news) (p ∷ ps) read = (read.0, in_turn payload olds news ps read.1)

-- the logs of sources, the next of which went so
pub next_went : {S : Type 0} (log : S → ReadLog) (olds nows : List S) (place : ℕ) (d new : S) (payloads : List (List ℕ)) (Went : ReadLog → ReadLog → Type 0)
    → place ≡ length payloads → length nows ≡ length olds → place < length nows → AreReadInTurn (map log olds) (map log nows) payloads
    → Went (log (get_or nows place d)) (log new) → AreReadUpTo Went (map log olds) (map log (set nows place new)) payloads
next_went log olds nows place d new payloads Went is same lt read went =
    let there : place < length (map log olds) = omega (arith, same, lt, length-map olds log) in
    subst (λ (logs : List ReadLog). AreReadUpTo Went (map log olds) logs payloads) (sym (map-set log nows place new))
    (up_to Went (map log olds) (map log nows) payloads place (log d) (log new) is there read
    (subst (λ (old : ReadLog). Went old (log new)) (sym (get_or-map log nows place d (log d) lt)) went))
