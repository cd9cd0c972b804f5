-- A number has one case, and the tables of a case are made one by one.
use Rattle.std.proofs.Common.{◌≡◌, ℕ, zero, suc, List, [], ◌∷◌, ◌++◌, take, Option, Some, refl, sym, ap, ◌∙◌}
use Rattle.std.specs.Prelude.{slice_get}
use Rattle.ffv1_vectors.specs.declared.suite.SuiteTables.TheVariants.{OneRun, SixRuns, TwoRuns}
use Rattle.ffv1_vectors.specs.declared.suite.SuiteCase.{SuiteCase}
use Rattle.ffv1_vectors.specs.declared.suite.SuiteContent.{SuiteContent}
use Rattle.ffv1_vectors.specs.declared.suite.SuiteTables.{SuiteTables}
use Rattle.ffv1_vectors.specs.Suite.{IsNumbered, suite_tables}

same_some : {X : Type 0} (o : Option X) (a b : X) → o ≡ Some a → o ≡ Some b → a ≡ b
same_some o a b p q = cc

case_with : SuiteTables → Option (ℕ × ℕ) → ℕ × ℕ → SuiteContent → ℕ → ℕ → SuiteCase
case_with tables chroma grid content width height = record { tables = tables; chroma = chroma; grid = grid; content = content; size = (width, height) }

same_parts : (t u : SuiteTables) (c d : Option (ℕ × ℕ)) (g h : ℕ × ℕ) (p q : SuiteContent) (w x y z : ℕ) → t ≡ u → c ≡ d → g ≡ h → p ≡ q → w ≡ x → y ≡ z
    → case_with t c g p w y ≡ case_with u d h q x z
same_parts t u c d g h p q w x y z e0 e1 e2 e3 e4 e5 = cc

pub one_case : (tables : SuiteTables) (number : ℕ) (a b : SuiteCase) → IsNumbered tables number a → IsNumbered tables number b → a ≡ b
unfolding case_with
one_case tables number a b is also =
    same_parts a.tables b.tables a.chroma b.chroma a.grid b.grid a.content b.content a.size.0 b.size.0 a.size.1 b.size.1 (is.by_tables ∙ sym also.by_tables)
    (same_some _ a.chroma b.chroma is.chroma also.chroma) (same_some _ a.grid b.grid is.grid also.grid)
    (same_some _ a.content b.content is.content also.content)
    (same_some _ a.size.0 b.size.0 is.width also.width) (same_some _ a.size.1 b.size.1 is.height also.height)

-- one more element
pub take_got : (xs : List (List ℕ)) (k : ℕ) (x : List ℕ) → slice_get xs k ≡ Some x → take (suc k) xs ≡ take k xs ++ x ∷ []
take_got [] k x e = cc
take_got (y ∷ xs) zero x e = let same : y ≡ x = cc in ap (λ z. z ∷ []) same
take_got (y ∷ xs) (suc k) x e = ap (λ zs. y ∷ zs) (take_got xs k x e)

pub all_tables : (tables : SuiteTables) → take 5 (suite_tables tables) ≡ suite_tables tables
all_tables OneRun = refl
all_tables SixRuns = refl
all_tables TwoRuns = refl
