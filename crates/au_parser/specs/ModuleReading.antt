-- Reading the module of a file.
use Rattle.std.specs.Prelude.{ℕ, suc, ◌+◌, Bool, nat_le, List, [], ◌∷◌, Option, Some, None, Ok, Err, length}
use Rattle.std.specs.Prelude.{drop, cond, codes}
use Prim.Native.Nat.{zero}
use Rattle.au_base.specs.declared.places.Pos.{Pos}
use Rattle.au_base.specs.declared.tokens.Keyword.TheVariants.{KwModule, KwBody, KwIs, KwEnd, KwImport}
use Rattle.au_base.specs.declared.tokens.Keyword.TheVariants.{KwPragma}
use Rattle.au_base.specs.declared.tokens.Sign.TheVariants.{LeftParenthesis, RightParenthesis, Semicolon, Dot}
use Rattle.au_base.specs.declared.tokens.Token.{Token}
use Rattle.au_base.specs.declared.tokens.What.{What}
use Rattle.au_base.specs.declared.tokens.What.TheVariants.{Word, Sign, Name}
use Rattle.au_syntax.specs.declared.modules.Part.{Part}
use Rattle.au_syntax.specs.declared.modules.Part.TheVariants.{Interface, Body}
use Rattle.au_syntax.specs.Modules.{Importing}
use Rattle.au_syntax.specs.Names.{Placed, Renaming}
use Rattle.au_syntax.specs.Plain.{Bytes, PlainDeclaration, PlainModule}
use Rattle.au_read_expressions.specs.declared.faults.Fault.TheVariants.{Passed}
use Rattle.au_read_expressions.specs.Bounds.{Bounds, bytes_limit}
use Rattle.au_read_expressions.specs.Reading.{Read, ◌>>=◌, is_front, begins_with, no, name_at}
use Rattle.au_read_expressions.specs.Reading.{exactly, behind_tokens, closed}
use Rattle.au_read_expressions.specs.Reading.{pair, shaped, built, before_all, repeated, listed}
use Rattle.au_read_statements.specs.StatementReading.{renaming_at}
use Rattle.au_parser.specs.DeclarationReading.{begins_declaration, declaration_at}

-- the bytes of a module's name up to and with this part of it, where so many stood before
abbrev pub bytes_with : ℕ → Placed Bytes → ℕ
bytes_with used name = used + length name.name

-- Names with dots between. With the name with which they have too many bytes, they pass the limit. The
-- first number is that of the bytes before, the second bounds how many names there may be.
module _ (b : Bounds) where
  abbrev pub after_name : (ℕ → List Token → Read (List (Placed Bytes))) → ℕ → Placed Bytes × List Token
      → Read (List (Placed Bytes))
  after_name others bytes x =
      cond (nat_le bytes b.bytes)
      (cond (begins_with (Sign Dot) x.1) (others (bytes + 1) (drop 1 x.1) >>= before_all x.0)
      (Ok (x.0 ∷ [], x.1)))
      (Err (Passed (bytes_limit b) (length x.1)))

  abbrev pub name_step : (ℕ → List Token → Read (List (Placed Bytes))) → ℕ → Placed Bytes × List Token
      → Read (List (Placed Bytes))
  name_step others used x = after_name others (bytes_with used x.0) x

  abbrev pub names_within : ℕ → ℕ → List Token → Read (List (Placed Bytes))
  names_within zero used tokens = no tokens
  names_within (suc k) used tokens = name_at tokens >>= name_step (names_within k) used

  unfoldable pub module_name_at : List Token → Read (List (Placed Bytes))
  module_name_at tokens = names_within (length tokens) 0 tokens

  -- an import
  abbrev pub importing_of : Pos → List (Placed Bytes) × List (Renaming Bytes) → Importing Bytes
  importing_of at x = record { at = at; from = x.0; items = x.1 }

  unfoldable pub import_at : List Token → Read (Importing Bytes)
  import_at =
      built importing_of
      (behind_tokens (Word KwImport ∷ [])
      (pair module_name_at (behind_tokens (Sign LeftParenthesis ∷ [])
      (closed (Sign RightParenthesis ∷ Sign Semicolon ∷ []) (listed renaming_at)))))

  abbrev pub imports_at : List Token → Read (List (Importing Bytes))
  imports_at = repeated (is_front (Word KwImport)) import_at

-- the place of a pragma, if there is one
abbrev pub pragma_whats : List What
pragma_whats = Word KwPragma ∷ Name (codes "Unsafe_Module") ∷ Sign Semicolon ∷ []

abbrev pub pragma_of : Pos → Unit {0} → Option Pos
pragma_of at x = Some at

abbrev pub pragma_at : List Token → Read (Option Pos)
pragma_at tokens =
    cond (begins_with (Word KwPragma) tokens) (built pragma_of (exactly pragma_whats) tokens)
    (Ok (None, tokens))

-- a module behind its imports
pub record ModuleParts : Type 0 where
  pub at : Pos
  pub part : Part
  pub name : List (Placed Bytes)
  pub pragma : Option Pos
  pub declarations : List PlainDeclaration

abbrev pub parts_of : Part → Pos → List (Placed Bytes) × (Option Pos × List PlainDeclaration) → ModuleParts
parts_of part at x = record { at = at; part = part; name = x.0; pragma = x.1.0; declarations = x.1.1 }

-- `module` or `module body`
abbrev pub part_whats : Part → List What
part_whats Interface = Word KwModule ∷ []
part_whats Body = Word KwModule ∷ Word KwBody ∷ []

-- `end module.` or `end module body.`
abbrev pub end_whats : Part → List What
end_whats Interface = Word KwEnd ∷ Word KwModule ∷ Sign Dot ∷ []
end_whats Body = Word KwEnd ∷ Word KwModule ∷ Word KwBody ∷ Sign Dot ∷ []

abbrev pub part_by : Bool → Part
part_by body = cond body Body Interface

abbrev pub module_of : List (Importing Bytes) × ModuleParts → PlainModule
module_of x = record {
  imports = x.0;
  at = x.1.at;
  part = x.1.part;
  name = x.1.name;
  pragma = x.1.pragma;
  declarations = x.1.declarations;
}

module _ (b : Bounds) where
  -- a module of this part
  unfoldable pub parts_with : Part → List Token → Read ModuleParts
  parts_with part =
      built (parts_of part)
      (behind_tokens (part_whats part)
      (pair (module_name_at b)
      (behind_tokens (Word KwIs ∷ [])
      (pair pragma_at (closed (end_whats part)
      (repeated (begins_declaration part) (declaration_at b part)))))))

  -- an interface or a body, by the second token
  abbrev pub parts_at : List Token → Read ModuleParts
  parts_at tokens = parts_with (part_by (begins_with (Word KwBody) (drop 1 tokens))) tokens

  unfoldable pub module_at : List Token → Read PlainModule
  module_at = shaped module_of (pair (imports_at b) parts_at)

  -- a file: a module, and nothing behind it
  abbrev pub ending : PlainModule → List Token → Read PlainModule
  ending m [] = Ok (m, [])
  ending m (token ∷ tokens) = no (token ∷ tokens)

  abbrev pub ended : PlainModule × List Token → Read PlainModule
  ended x = ending x.0 x.1

  unfoldable pub file_at : List Token → Read PlainModule
  file_at tokens = module_at tokens >>= ended
