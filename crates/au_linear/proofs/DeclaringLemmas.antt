-- The variables that lists of items declare, item by item.
use Rattle.std.proofs.Common.{◌≡◌, [], ◌∷◌, ◌++◌, append_assoc, map, Vec, ap, ◌∙◌, refl, sym}
use Rattle.std.specs.Global.{Global}
use Rattle.au_base.specs.declared.places.Pos.{Pos}
use Rattle.au_syntax.specs.declared.phases.Phase.{Ghosts}
use Rattle.au_syntax.specs.declared.names.Bind.{Bind}
use Rattle.au_syntax.specs.declared.names.Field.{Field}
use Rattle.au_syntax.specs.declared.statements.Stmt.{Stmt}
use Rattle.au_syntax.specs.declared.statements.Stmt as code
use Rattle.au_syntax.specs.declared.statements.Block.{Block}
use Rattle.au_syntax.specs.declared.statements.Branch.{Branch}
use Rattle.au_syntax.specs.declared.statements.Arm.{Arm}
use Rattle.au_syntax.specs.Plain.{PlainStatements, plain_statement}
use Rattle.au_syntax.proofs.StatementLemmas.{if_else_says}
use Rattle.au_lives.specs.Paths.{bound_name}
use Rattle.au_lives.specs.Scopes.{scope, bound_over, scopes, scopes_after, scopes_inside, scopes_of_branches}
use Rattle.au_lives.specs.Scopes.{scopes_of_arms}
use Rattle.au_paths.specs.Seen.{seen_name, seen_bind, seen_binds, seen_parameters, seen_statement}
use Rattle.au_paths.specs.Seen.{seen_statements, seen_block, seen_branches, seen_arms}
use Rattle.au_linear.proofs.TellingLemmas.{Declaring}

module _ {X N T C : Type 0} (g : Ghosts X N T C) where
  abbrev pub binds_declare : PlainStatements → Declaring (Bind X N T C)
  binds_declare b = record {
    all = λ binds. bound_over (seen_binds g binds) b;
    one = λ bind rest. scope (bound_name (seen_bind g bind)) b ∷ [];
    step = λ bind rest. refl;
    none = refl;
  }

  abbrev pub parameters_declare : PlainStatements → Declaring (Field X N T C)
  parameters_declare b = record {
    all = λ fields. map (λ parameter. scope parameter.name b) (seen_parameters g fields);
    one = λ field rest. scope (seen_name g field.name) b ∷ [];
    step = λ field rest. refl;
    none = refl;
  }

  abbrev pub statements_declare : Declaring (Stmt X N T C)
  statements_declare = record {
    all = λ ss. scopes (seen_statements g ss);
    one = λ s rest. scopes_after (seen_statement g s) (seen_statements g rest) ++ scopes_inside (seen_statement g s);
    step = λ s rest. sym (append_assoc (scopes_after (seen_statement g s) (seen_statements g rest))
        (scopes_inside (seen_statement g s))
        (scopes (seen_statements g rest)));
    none = refl;
  }

  abbrev pub branches_declare : Declaring (Branch X N T C)
  branches_declare = record {
    all = λ bs. scopes_of_branches (seen_branches g bs);
    one = λ b rest. scopes (seen_block g b.block);
    step = λ b rest. refl;
    none = refl;
  }

  abbrev pub arms_declare : Declaring (Arm X N T C)
  arms_declare = record {
    all = λ rest. scopes_of_arms (seen_arms g rest);
    one = λ a rest. bound_over (seen_binds g a.binds.items) (seen_block g a.block) ++ scopes (seen_block g a.block);
    step = λ a rest. sym (append_assoc (bound_over (seen_binds g a.binds.items) (seen_block g a.block))
        (scopes (seen_block g a.block))
        (scopes_of_arms (seen_arms g rest)));
    none = refl;
  }

  -- a conditional with an else declares what its branches and its else declare
  pub else_declares : (stmt : Stmt X N T C) (at : Pos) (bs : Vec (Branch X N T C) Global) (b : Block X N T C)
      → stmt ≡ code.IfElse at bs b →
      scopes_inside (seen_statement g stmt) ≡ scopes_of_branches (seen_branches g bs.items) ++ scopes (seen_block g b)
  else_declares stmt at bs b is =
      ap (λ s. scopes_inside (seen_statement g s)) is
      ∙ ap (λ s. scopes_inside (plain_statement g.name_bytes s)) (if_else_says g at bs b)
