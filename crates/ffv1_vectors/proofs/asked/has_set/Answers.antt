use Rattle.std.proofs.Common.{◌≡◌, ◌+◌, ◌-◌, ◌*◌, ◌/◌, ℕ, List, [], ◌∷◌, Vec, Global, drop, map, refl, ap, sym, ◌∙◌, subst, rules, tests}
use Rattle.std.proofs.lemmas.Bool.{false≢true}
use Rattle.std.proofs.lemmas.List.{drop_more, drop_all, length-map}
use Rattle.ffv1_range.specs.Tables.{scale_after, scale_after_all}
use Rattle.ffv1_vectors.specs.Inner.Asked.{HasTable, HasTables}
use Rattle.ffv1_vectors.proofs.asked.has_set.Goals as goal

-- the lengths of each table's runs
abbrev runs_of : List (Vec ℕ Global) → List (List ℕ)
runs_of tables = map (λ (runs : Vec ℕ Global). runs.items) tables

pub returns-then-tables-ne5 : goal.returns-then-tables-ne5
returns-then-tables-ne5 c = λ yes. absurd (false≢true yes)

pub loop-table-init : goal.loop-table-init
loop-table-init c = record { entries = λ all. all; scales = refl }

pub returns-then-not-has_table : goal.returns-then-not-has_table
returns-then-not-has_table c = λ yes. absurd (false≢true yes)

pub returns-in_default : goal.returns-in_default
returns-in_default c = λ yes. absurd (false≢true yes)

pub loop-table-preserved : goal.loop-table-preserved
loop-table-preserved c =
    let setup = c.args.setup.now in
    let set : ℕ = c.args.set in
    let tables = c.args.tables.now in
    let k : ℕ = c.loop-table.table in
    let scale : ℕ = c.loop-table.scale in
    let runs : Vec ℕ Global = c.index-tables-table.result in
    let more : List (List ℕ) = runs_of (drop (k + 1) tables) in
    let rest : runs_of (drop k tables) ≡ runs.items ∷ more =
    ap runs_of (drop_more tables k runs c.loop-table-test.true ∙ ap (λ t. t ∷ drop (k + 1) tables) (sym c.index-tables-table.is)) in
    let next : c.in-Some.next ≡ scale_after scale runs.items = c.in-Some.ensures ∙ ap (λ n. scale * (2 * n - 1)) (c.len.ensures ∙ runs.ok.0) in
    let here : HasTable setup set k scale runs.items = subst (HasTable setup set k scale) c.deref.ensures.value (c.has_table.ensures (search rules)) in
    record {
      entries = λ others. c.loop-table.invariant.entries
          (subst (HasTables setup set k scale) (sym rest) (here, subst (λ s. HasTables setup set (k + 1) s more) next others));
      scales = ap (λ s. scale_after_all s more) next ∙ sym (ap (scale_after_all scale) rest) ∙ c.loop-table.invariant.scales;
    }

pub returns-then-scale-le65535 : goal.returns-then-scale-le65535
returns-then-scale-le65535 c = λ yes.
    let k : ℕ = c.loop-table.table in
    let scale : ℕ = c.loop-table.scale in
    let tables = c.args.tables.now in
    let none : drop k tables ≡ [] = drop_all k tables c.loop-table-test.false in
    let last : scale ≡ scale_after_all 1 (runs_of tables) = sym (ap (λ ts. scale_after_all scale (runs_of ts)) none) ∙ c.loop-table.invariant.scales in
    let half : c.contexts.result ≡ (scale + 1) / 2 = search (rules, tests) in
    record {
      five = length-map tables (λ (runs : Vec ℕ Global). runs.items) ∙ c.if-tables-ne5.false;
      entries = c.loop-table.invariant.entries (subst (λ ts. HasTables c.args.setup.now c.args.set k scale (runs_of ts)) (sym none) tt);
      contexts = sym c.contexts.ensures ∙ half ∙ ap (λ s. (s + 1) / 2) last;
    }
