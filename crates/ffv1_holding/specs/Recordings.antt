-- Of which recordings holdings are made (own).
use Rattle.ffv1_range.specs.declared.scope.Scope.{Scope}
use Rattle.ffv1_range.specs.declared.scope.Scope.TheVariants as scopes
use Rattle.ffv1_holding.specs.declared.recordings.Recordings.{Recordings}
use Rattle.ffv1_holding.specs.declared.recordings.Recordings.TheVariants.{Profile, Any}

-- the records that are read: those of the profile, or each with parities
abbrev pub scope_of : Recordings → Scope
scope_of Profile = scopes.Profile
scope_of Any = scopes.Parities
