-- The sorts of the variables of items, and those inside of a statement, form by form.
use Rattle.std.proofs.Common.{◌≡◌, [], ◌∷◌, ◌++◌, append_assoc, Vec, ap, ◌∙◌, refl, sym}
use Rattle.std.specs.Global.{Global}
use Rattle.std.specs.declared.boxed.Box.{Box}
use Rattle.au_base.specs.declared.places.Pos.{Pos}
use Rattle.au_lives.specs.declared.lives.Sort.{Sort}
use Rattle.au_lives.specs.declared.lives.Sort.TheVariants as asks
use Rattle.au_lives.specs.Paths.{access_of}
use Rattle.au_program_lives.specs.Scopes.{TypeScope, opened_by, opened_in}
use Rattle.au_program_lives.specs.Said.{arms_said, binds_said, block_said, branches_said, parameters_said}
use Rattle.au_program_lives.specs.Said.{statement_said, statements_said}
use Rattle.au_program_lives.specs.Sorts.{written_sort, reference_sort, region_written, parameter_sorts}
use Rattle.au_program_lives.specs.Sorts.{bound_sorts, sorts_after, sorts, sorts_inside, sorts_of_branches}
use Rattle.au_program_lives.specs.Sorts.{sorts_of_arms}
use Rattle.au_program_lives.proofs.PutLemmas.{Giving}
use Rattle.au_syntax.specs.declared.phases.Phase.{Ghosts}
use Rattle.au_syntax.specs.declared.types.Access.{Access}
use Rattle.au_syntax.specs.declared.types.TypeText.{TypeText}
use Rattle.au_syntax.specs.declared.expressions.BorrowMode.{BorrowMode}
use Rattle.au_syntax.specs.declared.expressions.Expr.{Expr}
use Rattle.au_syntax.specs.declared.names.Bind.{Bind}
use Rattle.au_syntax.specs.declared.names.BorrowNames.{BorrowNames}
use Rattle.au_syntax.specs.declared.names.Field.{Field}
use Rattle.au_syntax.specs.declared.names.Ident.{Ident}
use Rattle.au_syntax.specs.declared.statements.Arm.{Arm}
use Rattle.au_syntax.specs.declared.statements.Binding.{Binding}
use Rattle.au_syntax.specs.declared.statements.Block.{Block}
use Rattle.au_syntax.specs.declared.statements.Branch.{Branch}
use Rattle.au_syntax.specs.declared.statements.Stmt.{Stmt}
use Rattle.au_syntax.specs.declared.statements.Stmt as code
use Rattle.au_syntax.specs.Plain.{Bytes, PlainStatements, plain_statement}
use Rattle.au_syntax.specs.Statements.{Statement}
use Rattle.au_syntax.specs.Views.{placed, statement, written}
use Rattle.au_syntax.proofs.StatementLemmas.{skip_says, let_says, destructure_says, assign_says}
use Rattle.au_syntax.proofs.StatementLemmas.{assign_through_says, call_says, return_says, if_says}
use Rattle.au_syntax.proofs.StatementLemmas.{if_else_says, case_says, while_says, for_says, borrow_says}
use Rattle.au_syntax.proofs.StatementLemmas.{borrow_typed_says}

module _ {X N T C : Type 0} (g : Ghosts X N T C) (sc : TypeScope) where
  abbrev pub parameters_give : Giving (Field X N T C)
  parameters_give = record {
    all = λ fields. parameter_sorts (parameters_said g fields) sc;
    one = λ field. written_sort sc (written field.of) ∷ [];
    step = λ field rest. refl;
    none = refl;
  }

  abbrev pub binds_give : Giving (Bind X N T C)
  binds_give = record {
    all = λ binds. bound_sorts (binds_said g binds) sc;
    one = λ bind. written_sort sc (written bind.of) ∷ [];
    step = λ bind rest. refl;
    none = refl;
  }

  abbrev pub statements_give : Giving (Stmt X N T C)
  statements_give = record {
    all = λ ss. sorts (statements_said g ss) sc;
    one = λ s. sorts_after (statement_said g s) sc ++ sorts_inside (statement_said g s) sc;
    step = λ s rest. sym (append_assoc (sorts_after (statement_said g s) sc) (sorts_inside (statement_said g s) sc)
        (sorts (statements_said g rest) sc));
    none = refl;
  }

  abbrev pub branches_give : Giving (Branch X N T C)
  branches_give = record {
    all = λ bs. sorts_of_branches (branches_said g bs) sc;
    one = λ b. sorts (block_said g b.block) sc;
    step = λ b rest. refl;
    none = refl;
  }

  abbrev pub arms_give : Giving (Arm X N T C)
  arms_give = record {
    all = λ all. sorts_of_arms (arms_said g all) sc;
    one = λ a. bound_sorts (binds_said g a.binds.items) sc ++ sorts (block_said g a.block) sc;
    step = λ a rest. sym (append_assoc (bound_sorts (binds_said g a.binds.items) sc) (sorts (block_said g a.block) sc)
        (sorts_of_arms (arms_said g rest) sc));
    none = refl;
  }

  -- a sort before those of a block in which a region is open, told otherwise
  pub lent_same : (b : PlainStatements) (one told : Sort) (region name : Bytes) → one ≡ told → region ≡ name →
      told ∷ sorts b (opened_in name sc) ≡ one ∷ sorts b (opened_in region sc)
  lent_same b one told region name e f =
      ap (λ s. s ∷ sorts b (opened_in name sc)) (sym e) ∙ ap (λ n. one ∷ sorts b (opened_in n sc)) (sym f)

  -- what a statement says decides
  inside : (s t : Stmt X N T C) → s ≡ t → (says : Statement g.SeenName g.SeenType g.SeenCall) → statement g t ≡ says →
      sorts_inside (statement_said g s) sc ≡ sorts_inside (plain_statement g.name_bytes says) sc
  inside s t is says e = ap (λ x. sorts_inside (plain_statement g.name_bytes x) sc) (ap (statement g) is ∙ e)

  module _ (s : Stmt X N T C) (at : Pos) where
    pub if_inside : (bs : Vec (Branch X N T C) Global) → s ≡ code.If at bs →
        sorts_inside (statement_said g s) sc ≡ sorts_of_branches (branches_said g bs.items) sc
    if_inside bs is = inside s _ is _ (if_says g at bs)

    pub if_else_inside : (bs : Vec (Branch X N T C) Global) (b : Block X N T C) → s ≡ code.IfElse at bs b →
        sorts_inside (statement_said g s) sc ≡ sorts_of_branches (branches_said g bs.items) sc
        ++ sorts (block_said g b) sc
    if_else_inside bs b is = inside s _ is _ (if_else_says g at bs b)

    pub case_inside : (e : Box (Expr X N T C) Global) (all : Vec (Arm X N T C) Global) → s ≡ code.Case at e all →
        sorts_inside (statement_said g s) sc ≡ sorts_of_arms (arms_said g all.items) sc
    case_inside e all is = inside s _ is _ (case_says g at e all)

    pub while_inside : (e : Box (Expr X N T C) Global) (b : Block X N T C) → s ≡ code.While at e b →
        sorts_inside (statement_said g s) sc ≡ sorts (block_said g b) sc
    while_inside e b is = inside s _ is _ (while_says g at e b)

    pub for_inside : (n : Ident X N T C) (a z : Box (Expr X N T C) Global) (b : Block X N T C) →
        s ≡ code.For at n a z b →
        sorts_inside (statement_said g s) sc ≡ asks.Free ∷ sorts (block_said g b) sc
    for_inside n a z b is = inside s _ is _ (for_says g at n a z b)

    pub borrow_inside : (access : Access) (names : BorrowNames X N T C) (b : Block X N T C) (stop : Pos) →
        s ≡ code.Borrow at access names b stop →
        sorts_inside (statement_said g s) sc
        ≡ reference_sort access ∷ sorts (block_said g b) (opened_in (g.name_bytes (placed g names.region).name) sc)
    borrow_inside access names b stop is = inside s _ is _ (borrow_says g at access names b stop)

    pub borrow_typed_inside : (r : Ident X N T C) (t : TypeText) (mode : BorrowMode) (x : Ident X N T C)
        (b : Block X N T C) (stop : Pos) → s ≡ code.BorrowTyped at r t mode x b stop →
        sorts_inside (statement_said g s) sc
        ≡ reference_sort (access_of mode) ∷ sorts (block_said g b) (opened_by (region_written (written t)) sc)
    borrow_typed_inside r t mode x b stop is = inside s _ is _ (borrow_typed_says g at r t mode x b stop)

    pub skip_inside : s ≡ code.Skip at → sorts_inside (statement_said g s) sc ≡ []
    skip_inside is = inside s _ is _ (skip_says g at)

    pub let_inside : (b : Binding) (n : Ident X N T C) (t : TypeText) (e : Box (Expr X N T C) Global) →
        s ≡ code.Let at b n t e →
        sorts_inside (statement_said g s) sc ≡ []
    let_inside b n t e is = inside s _ is _ (let_says g at b n t e)

    pub destructure_inside : (binds : Vec (Bind X N T C) Global) (e : Box (Expr X N T C) Global) →
        s ≡ code.Destructure at binds e →
        sorts_inside (statement_said g s) sc ≡ []
    destructure_inside binds e is = inside s _ is _ (destructure_says g at binds e)

    pub assign_inside : (n : Ident X N T C) (fields : Vec (Ident X N T C) Global) (e : Box (Expr X N T C) Global) →
        s ≡ code.Assign at n fields e → sorts_inside (statement_said g s) sc ≡ []
    assign_inside n fields e is = inside s _ is _ (assign_says g at n fields e)

    pub assign_through_inside : (n : Ident X N T C) (fields : Vec (Ident X N T C) Global)
        (e : Box (Expr X N T C) Global) →
        s ≡ code.AssignThrough at n fields e → sorts_inside (statement_said g s) sc ≡ []
    assign_through_inside n fields e is = inside s _ is _ (assign_through_says g at n fields e)

    pub call_inside : (e : Box (Expr X N T C) Global) → s ≡ code.Call at e → sorts_inside (statement_said g s) sc ≡ []
    call_inside e is = inside s _ is _ (call_says g at e)

    pub return_inside : (e : Box (Expr X N T C) Global) → s ≡ code.Return at e →
        sorts_inside (statement_said g s) sc ≡ []
    return_inside e is = inside s _ is _ (return_says g at e)
