-- What is written to is as it was, or some bytes were written.
use Rattle.std.proofs.Common.{◌≡◌, ◌⊎◌, ◌<◌, ℕ, Bool, List, [], ◌∷◌, ◌++◌, length, Result, Ok, Err, inl, inr, sym, subst, arith}
use Rattle.std.proofs.lemmas.List.{length-append}
use Rattle.ffv1_devices.specs.Logs.{WriteLog}
use Rattle.ffv1_devices.proofs.Steps.{Writes-trans}
use Rattle.ffv1_devices.specs.Touching.{WritesIfTouched}
use Rattle.ffv1_stretches.specs.declared.pass.MendFault.{MendFault}

module _ {S : Type 0} (log : S → WriteLog) where
  touched_more : (a b c : S) → WritesIfTouched log a b → WritesIfTouched log b c → WritesIfTouched log a c
  touched_more a b c (inl same) more = subst (λ s. WritesIfTouched log s c) same more
  touched_more a b c (inr (front, some, wrote)) (inl same) = subst (λ s. WritesIfTouched log a s) (sym same) (inr (front, some, wrote))
  touched_more a b c (inr (front, some, wrote)) (inr (rest, any, on)) =
      inr (front ++ rest, omega (arith, length-append front rest), Writes-trans _ _ _ front rest wrote on)

  -- a stretch more was mended
  pub touched_on : (a b c : S) (value : Bool) (fault : MendFault) → WritesIfTouched log a b → (◌≡◌ {A = Result Bool MendFault} (Ok value) (Err fault)) ⊎ WritesIfTouched log b c
      → WritesIfTouched log a c
  touched_on a b c value fault so_far (inl is) = absurd (cc)
  touched_on a b c value fault so_far (inr more) = touched_more a b c so_far more

  -- mending it stopped
  pub touched_last : (a b c : S) (stop fault : MendFault) → WritesIfTouched log a b
      → (◌≡◌ {A = Result Bool MendFault} (Err stop) (Err fault)) ⊎ WritesIfTouched log b c
      → (stop ≡ fault) ⊎ WritesIfTouched log a c
  touched_last a b c stop fault so_far (inl is) = inl (cc)
  touched_last a b c stop fault so_far (inr more) = inr (touched_more a b c so_far more)
