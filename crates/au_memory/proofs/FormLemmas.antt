-- Which form a tree has by its type, and which value it then shows.
use Rattle.std.proofs.Common.{◌≡◌, ℕ, List, refl}
use Rattle.std.specs.Prelude.{Some}
use Rattle.au_effects.specs.Values.{unit, truth, number, text, made, reference, box, buffer, terminal, root}
use Rattle.au_running_types.specs.Running.{token}
use Rattle.au_types.specs.declared.types.Region.{Region}
use Rattle.au_types.specs.Types as meaning
use Rattle.au_types.specs.Types.{Meaning}
use Rattle.au_memory.specs.Trees.{Value, Step, Tree, a_plain, a_made, a_box, a_buffer, a_terminal, a_root, a_writer}
use Rattle.au_memory.specs.Trees.{a_reader}
use Rattle.au_memory.specs.Loans.{Types, Loan, Table, IsWriter, Point, LeadsTo}
use Rattle.au_memory.specs.Shown.{Has, IsPlain, AreDeclared}

-- values that hold nothing aren't references
no_writer : (v : Value) (t : Meaning) (region : Region) → IsPlain v (meaning.writes t region) → ⊥
no_writer unit t region h = h
no_writer (truth b) t region h = h
no_writer (number kind z) t region h = h
no_writer (text one) t region h = h
no_writer (made tag born parts) t region h = h
no_writer (reference b to) t region h = h
no_writer (box i) t region h = h
no_writer (buffer i) t region h = h
no_writer (terminal i) t region h = h
no_writer (root i) t region h = h

no_reader : (v : Value) (t : Meaning) (region : Region) → IsPlain v (meaning.reads t region) → ⊥
no_reader unit t region h = h
no_reader (truth b) t region h = h
no_reader (number kind z) t region h = h
no_reader (text one) t region h = h
no_reader (made tag born parts) t region h = h
no_reader (reference b to) t region h = h
no_reader (box i) t region h = h
no_reader (buffer i) t region h = h
no_reader (terminal i) t region h = h
no_reader (root i) t region h = h

module _ (types : Types) (forms : AreDeclared types) (s : Table) where
  -- a tree of a type of references that write is one of a loan that writes
  pub record IsWriterOf (tree : Tree) (t : Meaning) (region : Region) : Type 0 where
    pub loan : ℕ
    pub row : Loan
    pub is : tree ≡ a_writer loan
    pub has : s loan ≡ Some row
    pub writes : IsWriter row.via
    pub typed : meaning.writes t region ≡ meaning.writes row.type (token row.token)

  pub writer_form : (tree : Tree) (t : Meaning) (region : Region) → Has types s tree (meaning.writes t region)
      → IsWriterOf tree t region
  writer_form (a_plain v) t region h = absurd (no_writer v t region h)
  writer_form (a_made tag born all) t region h = absurd (forms.fields (meaning.writes t region) tag h.0 h.1)
  writer_form (a_box born content) t region h = absurd (forms.boxes (meaning.writes t region) h.0 h.1)
  writer_form (a_buffer born all) t region h = absurd (forms.buffers (meaning.writes t region) h.0 h.1)
  writer_form (a_terminal born) t region h = absurd (forms.terminals (meaning.writes t region) h)
  writer_form (a_root born) t region h = absurd (forms.roots (meaning.writes t region) h)
  writer_form (a_writer g) t region h =
      record { loan = g; row = h.0; is = refl; has = h.1; writes = h.2; typed = h.3 }
  writer_form (a_reader g steps) t region h = let wrong = h.3 in absurd cc

  -- a tree of a type of references that read is one of a loan that reads
  pub record IsReaderOf (tree : Tree) (t : Meaning) (region : Region) : Type 0 where
    pub loan : ℕ
    pub steps : List Step
    pub row : Loan
    pub point : Point
    pub is : tree ≡ a_reader loan steps
    pub leads : LeadsTo types s loan steps row point
    pub typed : meaning.reads t region ≡ meaning.reads point.type (token row.token)

  pub reader_form : (tree : Tree) (t : Meaning) (region : Region) → Has types s tree (meaning.reads t region)
      → IsReaderOf tree t region
  reader_form (a_plain v) t region h = absurd (no_reader v t region h)
  reader_form (a_made tag born all) t region h = absurd (forms.fields (meaning.reads t region) tag h.0 h.1)
  reader_form (a_box born content) t region h = absurd (forms.boxes (meaning.reads t region) h.0 h.1)
  reader_form (a_buffer born all) t region h = absurd (forms.buffers (meaning.reads t region) h.0 h.1)
  reader_form (a_terminal born) t region h = absurd (forms.terminals (meaning.reads t region) h)
  reader_form (a_root born) t region h = absurd (forms.roots (meaning.reads t region) h)
  reader_form (a_writer g) t region h = let wrong = h.3 in absurd cc
  reader_form (a_reader g steps) t region h =
      record { loan = g; steps = steps; row = h.0; point = h.1; is = refl; leads = h.2; typed = h.3 }
