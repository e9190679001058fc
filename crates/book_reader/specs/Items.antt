-- The check of one item behind an environment, with units of fuel.
use Rattle.std.specs.Prelude.{ℕ, Bool, true, false, List, [], ◌∷◌, ◌++◌, length, Option, Some, None, is_some, Result, Ok, Err}
use Rattle.ld_trees.specs.Term.{Term}
use Rattle.ld_terms.specs.Items.{item_named}
use Rattle.ld_terms.specs.Names.{level_name}
use Rattle.ld_terms.specs.declared.globals.Item.{Item}
use Rattle.ld_terms.specs.declared.globals.Local.{Local}
use Rattle.term_syntax.specs.Lex.{Text}
use Rattle.term_syntax.specs.Scoping.{Resolved, scope}
use Rattle.term_syntax.specs.declared.scope_fault.ScopeFault.{ScopeFault}
use Rattle.term_syntax.specs.declared.surface.Surface.{Surface}
use Rattle.term_text.specs.Scoped.{arities}
use Rattle.conversion.specs.Runs.{Refusal, Mismatch, Run, Outcome, Gave, Refused, OutOfFuel}
use Rattle.conversion.specs.Conversion.{conv}
use Rattle.kernel_check.specs.Inference.{infer, infer_sort}
use Rattle.meta_context.specs.Entered.{names_of}
use Rattle.book_reader.specs.declared.source.Parameter.{Parameter}
use Rattle.book_reader.specs.declared.source.Source.{Source}
use Rattle.meta_context.specs.Plain.{rules_ctx, rules_env}

-- why an item isn't added
pub data ItemRefusal : Type 0 where
  NameTaken : Text → ItemRefusal
  Scope : ScopeFault → ItemRefusal
  Kernel : Refusal → ItemRefusal
  Fuel : ItemRefusal

-- a call that may spend units of fuel: a value and the units that are left, or a refusal
abbrev pub Check : Type 0 → Type 0
Check A = ℕ → Result (A × ℕ) ItemRefusal

abbrev pub pure : {A : Type 0} → A → Check A
pure a n = Ok (a, n)

abbrev pub refuse : {A : Type 0} → ItemRefusal → Check A
refuse r n = Err r

abbrev pub go_on : {A B : Type 0} → Result (A × ℕ) ItemRefusal → (A → Check B) → Result (B × ℕ) ItemRefusal
go_on (Ok p) f = f p.0 p.1
go_on (Err r) f = Err r

abbrev pub ◌>>=◌ : {A B : Type 0} → Check A → (A → Check B) → Check B
◌>>=◌ m f n = go_on (m n) f

abbrev pub ◌>>◌ : {A B : Type 0} → Check A → Check B → Check B
◌>>◌ m k n = go_on (m n) (λ _. k)

infixr 20 ◌>>◌
infixl 20 ◌>>=◌
-- names are resolved at no cost
abbrev pub scoped : {A : Type 0} → Resolved A → Check A
scoped (Ok a) n = Ok (a, n)
scoped (Err e) n = Err (Scope e)

abbrev pub ran : {A : Type 0} → Outcome A → Result (A × ℕ) ItemRefusal
ran (Gave a n) = Ok (a, n)
ran (Refused r n) = Err (Kernel r)
ran OutOfFuel = Err Fuel

-- a call of the kernel
abbrev pub kernel : {A : Type 0} → Run A → Check A
kernel m n = ran (m n)

abbrev pub choose : {A : Type 0} → Bool → Check A → Check A → Check A
choose true a b = a
choose false a b = b

-- the name of a parameter at level k: the one that its text gives, or else the level name of its own level
abbrev pub entry_name : ℕ → Option Text → Text
entry_name k (Some x) = x
entry_name k None = level_name k

module _ (items : List (Item Term)) where
  -- the term that a text means behind the parameters so far
  abbrev pub resolved : List (Local Term) → Surface → Check Term
  resolved done t = scoped (scope (arities items) (names_of done) t [])

  -- a term has a sort behind the parameters so far
  abbrev pub sorted : List (Local Term) → Term → Check (Unit {0})
  sorted done A = kernel (infer_sort (rules_env items) (rules_ctx done) A) >> pure tt

  -- a type behind the parameters so far: its names are resolved, and it has a sort
  abbrev pub typed : List (Local Term) → Surface → Check Term
  typed done t = do
    A ← resolved done t
    sorted done A
    pure A

  -- the parameters from left to right, each in those before it
  abbrev pub parameters : List (Local Term) → List Parameter → Check (List (Local Term))
  parameters done [] = pure done
  parameters done (p ∷ ps) = do
    A ← typed done p.ty
    parameters (done ++ record { name = entry_name (length done) p.name; ty = A } ∷ []) ps

  -- a type that was found is converted with the stated one
  abbrev pub fits : ℕ → Term → Term → Check (Unit {0})
  fits depth found T = do
    equal ← kernel (conv (rules_env items) found T)
    choose equal (pure tt) (refuse (Kernel (Mismatch depth found T)))

  -- a definition's body, the type of which is converted with the stated one
  abbrev pub body : List (Local Term) → Term → Surface → Check Term
  body params T t = do
    M ← resolved params t
    found ← kernel (infer (rules_env items) (rules_ctx params) M)
    fits (length params) found T
    pure M

  -- the body, where there is one
  abbrev pub optional_body : List (Local Term) → Term → Option Surface → Check (Option Term)
  optional_body params T None = pure None
  optional_body params T (Some t) = do
    M ← body params T t
    pure (Some M)

  -- no item has the name
  abbrev pub new_name : Text → Check (Unit {0})
  new_name name = choose (is_some (item_named items name)) (refuse (NameTaken name)) (pure tt)

  -- the item that a source says
  abbrev pub item : Source → Check (Item Term)
  item s = do
    new_name s.name
    params ← parameters [] s.params
    T ← typed params s.ty
    M ← optional_body params T s.body
    pure (record { name = s.name; params = params; ty = T; body = M })
