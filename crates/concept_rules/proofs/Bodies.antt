-- Names that are taken in extent of a body, and paths that are spelled alike.
use Rattle.std.proofs.Common.{◌≡◌, ℕ, suc, Bool, true, false, ◌||◌, List, [], ◌∷◌, length, Option, Some, None, refl, sym, ap, ◌∙◌, if◌then◌else◌}
use Rattle.std.specs.Prelude.{is_some}
use Rattle.std.specs.Option.{option_or}
use Rattle.std.specs.Str.{bytes_eq}
use Rattle.utopist_syntax.specs.declared.expr.Expr.{Expr}
use Rattle.utopist_syntax.specs.View.{trees_of}
use Rattle.utopist_syntax.specs.FileTree.{ItemTree}
use Rattle.concept_rules.specs.Declarations.{is_among, declared, declaration, is_declared}
use Rattle.concept_rules.specs.BodyFault.{count_trees}
use Rattle.concept_rules.specs.steps.InBody.{AreUpTo}
use Rattle.concept_rules.proofs.Items.{declaration-append}

last_step :
    (o : Option ItemTree) (i : ItemTree) (b : Bool)
    → is_some (option_or o (if (b || false) then Some i else None)) ≡ (is_some o || b)
last_step None i true = refl
last_step None i false = refl
last_step (Some j) i b = refl

-- a name is declared up to a relation where it is declared before, or is its own
pub declared_up_to :
    (items before : List ItemTree) (text name : List ℕ) → AreUpTo items before text
    → is_declared items name ≡ (is_declared before name || bytes_eq name text)
declared_up_to items before text name h =
    let whole = ap (λ (xs : List ItemTree). is_declared xs name) h.items ∙ ap is_some (declaration-append before (h.last ∷ []) name) in
    let own : is_among name (declared h.last) ≡ (bytes_eq name text || false) = ap (is_among name) h.name in
    whole ∙ rw own (last_step (declaration before name) h.last (bytes_eq name text))

-- as many trees as expressions
pub count_trees_of : (es : List Expr) → count_trees (trees_of es) ≡ length es
count_trees_of [] = refl
count_trees_of (e ∷ es) = ap suc (count_trees_of es)

pub up_to_yes :
    (items before : List ItemTree) (text name : List ℕ) (r : Bool) → AreUpTo items before text
    → r ≡ is_declared before name → r ≡ true → r ≡ is_declared items name
up_to_yes items before text name r h e t =
    sym (declared_up_to items before text name h ∙ ap (λ b. b || bytes_eq name text) (sym e) ∙ rw t refl)

pub up_to_own :
    (items before : List ItemTree) (text name : List ℕ) (r s : Bool) → AreUpTo items before text
    → r ≡ is_declared before name → r ≡ false → s ≡ bytes_eq name text → s ≡ is_declared items name
up_to_own items before text name r s h e t own =
    own
    ∙ sym (declared_up_to items before text name h ∙ ap (λ b. b || bytes_eq name text) (sym e ∙ t))
