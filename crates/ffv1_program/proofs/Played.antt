-- What was played, of a record and inputs by other names.
use Rattle.std.proofs.Common.{◌≡◌, ℕ, List, length, Option, Bool, Result, subst}
use Rattle.ffv1_commands.specs.Paths.{IsTakePath}
use Rattle.ffv1_commands.specs.SamplesText.{PlaysFiles, SamplesStops}
use Rattle.ffv1_commands.proofs.OfBytes.{OfBytes}
use Rattle.ffv1_commands.specs.declared.fault.CliFault.{CliFault}

abbrev pub Played : Result Bool CliFault → (width height : ℕ) → (record' : Option (List ℕ)) → (inputs : List (Option (List ℕ)))
    → (ob oa pb pa : Option (List ℕ)) → Type 0
Played r width height record' inputs ob oa pb pa =
    OfBytes (PlaysFiles record' width height inputs ob oa pb pa) (SamplesStops record' width height inputs ob oa pb pa) (IsTakePath (length inputs)) r

pub played_as : (r : Result Bool CliFault) (width height : ℕ) (record' of_record : Option (List ℕ)) (inputs given : List (Option (List ℕ)))
    (ob oa pb pa : Option (List ℕ)) → record' ≡ of_record → inputs ≡ given → Played r width height record' inputs ob oa pb pa
    → Played r width height of_record given ob oa pb pa
played_as r width height record' of_record inputs given ob oa pb pa one two played =
    subst (λ x. Played r width height x given ob oa pb pa) one (subst (λ x. Played r width height record' x ob oa pb pa) two played)
