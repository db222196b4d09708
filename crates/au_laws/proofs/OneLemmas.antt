-- There is one first fault at most, and one exactly where there are no good notes.
use Rattle.std.proofs.Common.{◌≡◌, ◌↔◌, ℕ, List, refl, sym, ◌∙◌, Ok, Err}
use Rattle.au_syntax.specs.declared.modules.Part.{Part}
use Rattle.au_syntax.specs.Plain.{PlainExpression, PlainStatements}
use Rattle.au_modules.specs.Programs.{ModuleParts}
use Rattle.au_typing.specs.Scopes.{Outside, Scope}
use Rattle.au_typing.specs.Faults.{Fault}
use Rattle.au_typing.specs.Good.{IsNoting}
use Rattle.au_typing.specs.Notes.{Mode, NotedExpression}
use Rattle.au_typing.proofs.Refused.{refused_exactly}
use Rattle.au_typing.specs.Derivations.{Derives}
use Rattle.au_typing.specs.DerivationFaults.{Judged, StatementFault}
use Rattle.au_typing.specs.ProgramSearch.{note_program}
use Rattle.au_typing.specs.DerivationSearch.{note_block}
use Rattle.au_typing.specs.Trees.{NotedParts, NotedStatements}
use Rattle.au_typing.proofs.ProgramLemmas.{not_refused, program_sound}
use Rattle.au_typing.proofs.SoundLemmas.{block_sound}
use Rattle.au_typing.proofs.RefusalLemmas.{fault_is}
use Rattle.au_laws.specs.FirstFaults.{FirstFault}
use Rattle.au_laws.specs.FirstInPrograms.{ProgramFault}
use Rattle.au_laws.specs.FirstInStatements.{BlockNoted, FaultIn}
use Rattle.au_laws.proofs.BlockLemmas.{block_given, block_tells, fault_in_fails}
use Rattle.au_laws.proofs.PassLemmas.{same_fault}
use Rattle.au_laws.proofs.ProgramLemmas.{program_fails, program_tells}
use Rattle.au_laws.proofs.TellLemmas.{fault_fails, tells}

pub one_of_expression : (scope : Scope) (e : PlainExpression) (mode : Mode) (f g : Fault)
    → FirstFault scope e mode f → FirstFault scope e mode g → f ≡ g
one_of_expression scope e mode f g one other =
    same_fault f g (sym (fault_fails scope e mode f one) ∙ fault_fails scope e mode g other)

pub one_of_block : (ss : PlainStatements) (sc : Scope) (f g : StatementFault) → FaultIn ss sc f → FaultIn ss sc g
    → f ≡ g
one_of_block ss sc f g one other =
    fault_is f g (sym (fault_in_fails ss sc f one) ∙ fault_in_fails ss sc g other)

pub one_of_program : (outside : ℕ → Part → Outside) (program : List ModuleParts) (f g : StatementFault)
    → ProgramFault outside program f → ProgramFault outside program g → f ≡ g
one_of_program outside program f g one other =
    fault_is f g (sym (program_fails outside program f one) ∙ program_fails outside program g other)

pub no_noting : (scope : Scope) (e : PlainExpression) (mode : Mode)
    → ((f : Fault) × FirstFault scope e mode f) ↔ (¬ ((a : NotedExpression) × IsNoting scope e mode a))
no_noting scope e mode = (
  λ (f, first). (refused_exactly scope e mode).0 (f, fault_fails scope e mode f first),
  λ none. let k = (refused_exactly scope e mode).1 none in (k.0, tells scope e mode k.0 k.1),
)

no_block_fault : (f : StatementFault) (b : NotedStatements)
    → ◌≡◌ {A = Judged NotedStatements} (Err f) (Ok b) → ⊥
no_block_fault f b h = cc

pub no_block_noting : (ss : PlainStatements) (sc : Scope)
    → ((f : StatementFault) × FaultIn ss sc f) ↔ (¬ ((b : NotedStatements) × BlockNoted ss sc b))
no_block_noting ss sc = (
  λ (f, first). λ (b, noted). no_block_fault f b (sym (fault_in_fails ss sc f first) ∙ block_given ss sc b noted),
  by (note_block ss sc) refl,
)
  where
    by : (r : Judged NotedStatements) → note_block ss sc ≡ r → ¬ ((b : NotedStatements) × BlockNoted ss sc b)
        → (f : StatementFault) × FaultIn ss sc f
    by (Ok b) h none = absurd (none (b, block_sound ss sc b h))
    by (Err f) h none = (f, block_tells ss sc f h)

pub no_derivation : (outside : ℕ → Part → Outside) (program : List ModuleParts)
    → ((f : StatementFault) × ProgramFault outside program f)
    ↔ (¬ ((noted : List NotedParts) × Derives outside program noted))
no_derivation outside program = (
  λ (f, first). λ (noted, derives).
      not_refused outside program noted f (program_fails outside program f first) derives,
  by (note_program outside program) refl,
)
  where
    by : (r : Judged (List NotedParts)) → note_program outside program ≡ r
        → ¬ ((noted : List NotedParts) × Derives outside program noted)
        → (f : StatementFault) × ProgramFault outside program f
    by (Ok noted) h none = absurd (none (noted, program_sound outside program noted h))
    by (Err f) h none = (f, program_tells outside program f h)
