-- First places of expressions, statements, branches and arms in order.
use Rattle.std.proofs.Common.{◌+◌, Bool, List, ◌++◌, append_assoc, refl, sym}
use Rattle.au_base.specs.declared.places.Pos.{Pos}
use Rattle.au_syntax.specs.declared.phases.Phase.{Ghosts}
use Rattle.au_syntax.specs.declared.expressions.Argument.{Argument}
use Rattle.au_syntax.specs.declared.expressions.Expr.{Expr}
use Rattle.au_syntax.specs.declared.statements.Stmt.{Stmt}
use Rattle.au_syntax.specs.declared.statements.Branch.{Branch}
use Rattle.au_syntax.specs.declared.statements.Arm.{Arm}
use Rattle.au_syntax.specs.Plain.{Bytes, PlainExpression}
use Rattle.au_lives.specs.Lives.{Hold, held_from}
use Rattle.au_lives.specs.Paths.{declared_by, bound_names}
use Rattle.au_lives.specs.Places.{consumed_at, consumed_at_all, consumed_at_arguments, parted_at}
use Rattle.au_lives.specs.Places.{parted_at_all, parted_at_arguments, gathered, gathered_in_block}
use Rattle.au_lives.specs.Places.{gathered_in_branches, gathered_in_arms, looped, looped_in_block}
use Rattle.au_lives.specs.Places.{looped_in_branches, looped_in_arms}
use Rattle.au_paths.specs.Seen.{seen_expression, seen_expressions, seen_arguments, seen_statement}
use Rattle.au_paths.specs.Seen.{seen_statements, seen_binds, seen_block, seen_branches, seen_arms}
use Rattle.au_linear.proofs.FirstLemmas as firsts

abbrev stay : {A : Type 0} → Unit {0} → A → Unit {0}
stay s a = tt

module _ {X N T C : Type 0} (g : Ghosts X N T C) (x : Bytes) (free : Bool) where
  abbrev pub consumed_list : firsts.Listing (Expr X N T C) (Unit {0})
  consumed_list = record {
    places = λ s es. consumed_at_all x free (seen_expressions g es);
    one = λ s e. consumed_at x free (seen_expression g e);
    after = stay;
    step = λ s a rest. refl;
    none = λ s. refl;
  }

  abbrev pub consumed_arguments : firsts.Listing (Argument X N T C) (Unit {0})
  consumed_arguments = record {
    places = λ s es. consumed_at_arguments x free (seen_arguments g es);
    one = λ s e. consumed_at x free (seen_expression g e.value);
    after = stay;
    step = λ s a rest. refl;
    none = λ s. refl;
  }

  abbrev pub parted_list : firsts.Listing (Expr X N T C) (Unit {0})
  parted_list = record {
    places = λ s es. parted_at_all x free (seen_expressions g es);
    one = λ s e. parted_at x free (seen_expression g e);
    after = stay;
    step = λ s a rest. refl;
    none = λ s. refl;
  }

  abbrev pub parted_arguments : firsts.Listing (Argument X N T C) (Unit {0})
  parted_arguments = record {
    places = λ s es. parted_at_arguments x free (seen_arguments g es);
    one = λ s e. parted_at x free (seen_expression g e.value);
    after = stay;
    step = λ s a rest. refl;
    none = λ s. refl;
  }

module _ {X N T C : Type 0} (g : Ghosts X N T C) (x : Bytes) (f : Hold → PlainExpression → List Pos) where
  abbrev pub gathered_list : firsts.Listing (Stmt X N T C) Hold
  gathered_list = record {
    places = λ h ss. gathered_in_block x f (seen_statements g ss) h;
    one = λ h s. gathered x f (seen_statement g s) h;
    after = λ h s. held_from x (declared_by (seen_statement g s)) h;
    step = λ h s rest. refl;
    none = λ h. refl;
  }

  abbrev pub gathered_branches : Hold → firsts.Listing (Branch X N T C) (Unit {0})
  gathered_branches h = record {
    places = λ s bs. gathered_in_branches x f (seen_branches g bs) h;
    one = λ s b. f h (seen_expression g b.test.value) ++ gathered_in_block x f (seen_block g b.block) h;
    after = stay;
    step = λ s b rest. sym (append_assoc (f h (seen_expression g b.test.value))
        (gathered_in_block x f (seen_block g b.block) h)
        (gathered_in_branches x f (seen_branches g rest) h));
    none = λ s. refl;
  }

  abbrev pub gathered_arms : Hold → firsts.Listing (Arm X N T C) (Unit {0})
  gathered_arms h = record {
    places = λ s rest. gathered_in_arms x f (seen_arms g rest) h;
    one = λ s a. gathered_in_block x f (seen_block g a.block)
        (held_from x (bound_names (seen_binds g a.binds.items)) h);
    after = stay;
    step = λ s a rest. refl;
    none = λ s. refl;
  }

  abbrev pub looped_list : firsts.Listing (Stmt X N T C) Hold
  looped_list = record {
    places = λ h ss. looped_in_block x f (seen_statements g ss) h;
    one = λ h s. looped x f (seen_statement g s) h;
    after = λ h s. held_from x (declared_by (seen_statement g s)) h;
    step = λ h s rest. refl;
    none = λ h. refl;
  }

  abbrev pub looped_branches : Hold → firsts.Listing (Branch X N T C) (Unit {0})
  looped_branches h = record {
    places = λ s bs. looped_in_branches x f (seen_branches g bs) h;
    one = λ s b. looped_in_block x f (seen_block g b.block) h;
    after = stay;
    step = λ s b rest. refl;
    none = λ s. refl;
  }

  abbrev pub looped_arms : Hold → firsts.Listing (Arm X N T C) (Unit {0})
  looped_arms h = record {
    places = λ s rest. looped_in_arms x f (seen_arms g rest) h;
    one = λ s a. looped_in_block x f (seen_block g a.block) (held_from x (bound_names (seen_binds g a.binds.items)) h);
    after = stay;
    step = λ s a rest. refl;
    none = λ s. refl;
  }
