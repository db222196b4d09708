-- A new tree that is marked as the old tree wants it: both say the same words, and each new note is allowed.
use Rattle.std.proofs.Common.{◌≡◌, true, ap, ◌∙◌, sym, IsTrue}
use Rattle.au_syntax.specs.declared.phases.Phase.{Ghosts}
use Rattle.au_syntax.specs.declared.expressions.Expr.{Expr}
use Rattle.au_syntax.specs.declared.statements.Stmt.{Stmt}
use Rattle.au_syntax.specs.declared.statements.Block.{Block}
use Rattle.au_syntax.specs.declared.declarations.Decl.{Decl}
use Rattle.au_syntax.specs.declared.modules.Module.{Module}
use Rattle.au_syntax.specs.Views.{expression, statement, block, declaration, module_tree}
use Rattle.au_syntax.specs.Plain.{plain_expression, plain_statement, plain_statements, plain_declaration}
use Rattle.au_syntax.specs.Plain.{plain_module}
use Rattle.au_syntax.specs.Notes.{notes_of_expression, notes_of_statement, notes_of_statements}
use Rattle.au_syntax.specs.Notes.{notes_of_declaration, notes_of_module}
use Rattle.au_mapping.proofs.Words.{marked, wanted}
use Rattle.au_mapping.proofs.WordLemmas.{kept, expression_words, statement_words, block_words}
use Rattle.au_mapping.proofs.WordLemmas.{declaration_words, module_words}
use Rattle.au_mapping.proofs.NoteLemmas.{held, expression_marks, statement_marks, block_marks}
use Rattle.au_mapping.proofs.NoteLemmas.{declaration_marks, module_marks, expression_free, statement_free}
use Rattle.au_mapping.proofs.NoteLemmas.{statements_free, declaration_free, declarations_free}

module _ {X N T C Y M U D : Type 0} (q : Ghosts Y M U D) (p : Ghosts X N T C) where
  pub expression_same : (new : Expr Y M U D) (old : Expr X N T C) →
      expression (marked q) new ≡ expression (wanted p) old →
      plain_expression q.name_bytes (expression q new) ≡ plain_expression p.name_bytes (expression p old)
  expression_same new old is =
      sym (expression_words q q.allows_type q.allows_call new)
      ∙ ap (plain_expression kept) is
      ∙ expression_words p (λ note. true) (λ note. true) old

  pub expression_allowed : (new : Expr Y M U D) (old : Expr X N T C) →
      expression (marked q) new ≡ expression (wanted p) old →
      IsTrue (notes_of_expression q.allows_type q.allows_call (expression q new))
  expression_allowed new old is =
      sym (expression_marks q q.allows_type q.allows_call new)
      ∙ ap (notes_of_expression held held) is
      ∙ expression_marks p (λ note. true) (λ note. true) old
      ∙ expression_free (expression p old)

  pub statement_same : (new : Stmt Y M U D) (old : Stmt X N T C) →
      statement (marked q) new ≡ statement (wanted p) old →
      plain_statement q.name_bytes (statement q new) ≡ plain_statement p.name_bytes (statement p old)
  statement_same new old is =
      sym (statement_words q q.allows_type q.allows_call new)
      ∙ ap (plain_statement kept) is
      ∙ statement_words p (λ note. true) (λ note. true) old

  pub statement_allowed : (new : Stmt Y M U D) (old : Stmt X N T C) →
      statement (marked q) new ≡ statement (wanted p) old →
      IsTrue (notes_of_statement q.allows_type q.allows_call (statement q new))
  statement_allowed new old is =
      sym (statement_marks q q.allows_type q.allows_call new)
      ∙ ap (notes_of_statement held held) is
      ∙ statement_marks p (λ note. true) (λ note. true) old
      ∙ statement_free (statement p old)

  pub block_same : (new : Block Y M U D) (old : Block X N T C) →
      block (marked q) new ≡ block (wanted p) old →
      plain_statements q.name_bytes (block q new) ≡ plain_statements p.name_bytes (block p old)
  block_same new old is =
      sym (block_words q q.allows_type q.allows_call new)
      ∙ ap (plain_statements kept) is
      ∙ block_words p (λ note. true) (λ note. true) old

  pub block_allowed : (new : Block Y M U D) (old : Block X N T C) →
      block (marked q) new ≡ block (wanted p) old →
      IsTrue (notes_of_statements q.allows_type q.allows_call (block q new))
  block_allowed new old is =
      sym (block_marks q q.allows_type q.allows_call new)
      ∙ ap (notes_of_statements held held) is
      ∙ block_marks p (λ note. true) (λ note. true) old
      ∙ statements_free (block p old)

  pub declaration_same : (new : Decl Y M U D) (old : Decl X N T C) →
      declaration (marked q) new ≡ declaration (wanted p) old →
      plain_declaration q.name_bytes (declaration q new) ≡ plain_declaration p.name_bytes (declaration p old)
  declaration_same new old is =
      sym (declaration_words q q.allows_type q.allows_call new)
      ∙ ap (plain_declaration kept) is
      ∙ declaration_words p (λ note. true) (λ note. true) old

  pub declaration_allowed : (new : Decl Y M U D) (old : Decl X N T C) →
      declaration (marked q) new ≡ declaration (wanted p) old →
      IsTrue (notes_of_declaration q.allows_type q.allows_call (declaration q new))
  declaration_allowed new old is =
      sym (declaration_marks q q.allows_type q.allows_call new)
      ∙ ap (notes_of_declaration held held) is
      ∙ declaration_marks p (λ note. true) (λ note. true) old
      ∙ declaration_free (declaration p old)

  pub module_same : (new : Module Y M U D) (old : Module X N T C) →
      module_tree (marked q) new ≡ module_tree (wanted p) old →
      plain_module q.name_bytes (module_tree q new) ≡ plain_module p.name_bytes (module_tree p old)
  module_same new old is =
      sym (module_words q q.allows_type q.allows_call new)
      ∙ ap (plain_module kept) is
      ∙ module_words p (λ note. true) (λ note. true) old

  pub module_allowed : (new : Module Y M U D) (old : Module X N T C) →
      module_tree (marked q) new ≡ module_tree (wanted p) old →
      IsTrue (notes_of_module q.allows_type q.allows_call (module_tree q new))
  module_allowed new old is =
      sym (module_marks q q.allows_type q.allows_call new)
      ∙ ap (notes_of_module held held) is
      ∙ module_marks p (λ note. true) (λ note. true) old
      ∙ declarations_free (module_tree p old).declarations
