-- Files that were read are as few as those of a program, and the declarations in each too.
use Rattle.std.proofs.Common.{◌≡◌, ◌≤◌, ◌+◌, ℕ, suc, true, ◌&&◌, List, [], ◌∷◌, ◌++◌, Vec, length, map, refl}
use Rattle.std.proofs.Common.{ap, sym, ◌∙◌, arith}
use Rattle.std.specs.Global.{Global}
use Rattle.std.specs.List.{flat_map, list_all}
use Rattle.std.proofs.lemmas.Bool.{le-leb}
use Rattle.std.proofs.lemmas.List.{length-append, length-map}
use Rattle.au_base.specs.declared.places.Pos.{Pos}
use Rattle.au_base.specs.declared.tokens.Sign.{Sign as SignOf}
use Rattle.au_base.specs.declared.tokens.Sign.TheVariants.{Dot, Semicolon}
use Rattle.au_base.specs.declared.tokens.Keyword.TheVariants.{KwEnd, KwIs}
use Rattle.au_base.specs.declared.tokens.Token.{Token}
use Rattle.au_base.specs.Limits.{most_tokens}
use Rattle.au_syntax.specs.declared.wholes.FileTree.{FileTree}
use Rattle.au_syntax.specs.Modules.{constant, opaque_type, record_type, union_type, function, class, instance}
use Rattle.au_syntax.specs.Modules.{constant_body, function_body, instance_body}
use Rattle.au_syntax.specs.Plain.{PlainDeclaration, PlainModule}
use Rattle.au_syntax.specs.Words.{AreWords, Words, begun, declaration_words, dotted, import_words, mark}
use Rattle.au_syntax.specs.Words.{part_words, pragma_words, word, words}
use Rattle.au_modules.specs.Counts as counts
use Rattle.au_modules.specs.Counts.{are_few, has_few}
use Rattle.au_modules.specs.Programs.{Entry, entry}
use Rattle.au_outcomes.specs.Halts.{bytes_in}
use Rattle.au_accepted.specs.Files.{most_files}
use Rattle.au_accepted.specs.Programs.{entries, shipped_entries}
use Rattle.au_outcomes.specs.Reading.{AreKept}
use Rattle.au_accepted.specs.Trees.{AreRead, IsRead, ReadFile}

-- ---- a file has no more declarations than words

begun_length : (at : Pos) (ws : Words) → length (begun at ws) ≡ length ws
begun_length at [] = refl
begun_length at (w ∷ ws) = refl

-- words that end with a sign
ends : (at : Pos) (ws : Words) (sign : SignOf) → 1 ≤ length (begun at (ws ++ mark sign))
ends at ws sign = omega (arith, begun_length at (ws ++ mark sign), length-append ws (mark sign))

-- a declaration has a word
some_word : (d : PlainDeclaration) → 1 ≤ length (declaration_words d)
some_word (constant at name t) = omega arith
some_word (opaque_type at name parameters universe) = omega arith
some_word (record_type at name parameters universe fields) = omega arith
some_word (union_type at name parameters universe cases) = omega arith
some_word (function at generics header) = ends at _ Semicolon
some_word (class at name parameter methods) = omega arith
some_word (instance at generics name t) = ends at _ Semicolon
some_word (constant_body at name t e) = omega arith
some_word (function_body at generics header body stop) = ends at _ Semicolon
some_word (instance_body at generics name t methods) = ends at _ Semicolon

fewer : (ds : List PlainDeclaration) → length ds ≤ length (flat_map declaration_words ds)
fewer [] = omega arith
fewer (d ∷ ds) =
    omega (arith, some_word d, fewer ds, length-append (declaration_words d) (flat_map declaration_words ds))

-- words stand among others
among : (a b c d e : Words) → length b ≤ length (a ++ b ++ c ++ d ++ e)
among a b c d e =
    omega (
      arith,
      length-append a b,
      length-append (a ++ b) c,
      length-append (a ++ b ++ c) d,
      length-append (a ++ b ++ c ++ d) e,
    )

declared_fewer : (m : PlainModule) → length m.declarations ≤ length (words m)
declared_fewer m =
    let before = part_words m.part ++ dotted m.name ++ word KwIs ++ pragma_words m.pragma in
    let body = before ++ flat_map declaration_words m.declarations ++ word KwEnd ++ part_words m.part
    ++ mark Dot in
    let inner = among before (flat_map declaration_words m.declarations) (word KwEnd) (part_words m.part)
    (mark Dot) in
    omega (
      arith,
      fewer m.declarations,
      inner,
      begun_length m.at body,
      length-append (flat_map import_words m.imports) (begun m.at body),
    )

spelled_length : (ws : Words) (tokens : List Token) → AreWords ws tokens → length ws ≡ length tokens
spelled_length [] [] h = refl
spelled_length [] (token ∷ tokens) h = absurd h
spelled_length (w ∷ ws) [] h = absurd h
spelled_length (w ∷ ws) (token ∷ tokens) h = ap suc (spelled_length ws tokens h.1)

-- ---- files that were read

read_few : (file number : ℕ) (bytes : List ℕ) (one : ReadFile) → IsRead file bytes one
    → has_few (record { file = number; tree = one.tree }) ≡ true
read_few file number bytes one h =
    let same = spelled_length (words one.tree) one.tokens h.spelled in
    le-leb (length one.tree.declarations) most_tokens
    (omega (arith, declared_fewer one.tree, same, h.within.1))

reads_few : (file : ℕ) (all : List (List ℕ)) (reads : List ReadFile) → AreRead file all reads
    → list_all has_few (entries file reads) ≡ true
unfolding entries
reads_few file [] [] h = refl
reads_few file [] (one ∷ reads) h = absurd h
reads_few file (bytes ∷ all) [] h = absurd h
reads_few file (bytes ∷ all) (one ∷ reads) h =
    ap (λ b. b && list_all has_few (entries (file + 1) reads)) (read_few file file bytes one h.0)
    ∙ reads_few (file + 1) all reads h.1

reads_length : (file : ℕ) (all : List (List ℕ)) (reads : List ReadFile) → AreRead file all reads
    → length (entries file reads) ≡ length all
unfolding entries
reads_length file [] [] h = refl
reads_length file [] (one ∷ reads) h = absurd h
reads_length file (bytes ∷ all) [] h = absurd h
reads_length file (bytes ∷ all) (one ∷ reads) h = ap suc (reads_length (file + 1) all reads h.1)

-- those that are kept
pub kept_few : (all : List (Vec ℕ Global)) (trees : List FileTree)
    → AreKept 0 (map bytes_in all) trees → list_all has_few (map entry trees) ≡ true
kept_few all trees h = ap (list_all has_few) h.2 ∙ reads_few 0 (map bytes_in all) h.0 h.1

pub kept_trees : (all : List (Vec ℕ Global)) (trees : List FileTree)
    → AreKept 0 (map bytes_in all) trees → length trees ≡ length all
kept_trees all trees h =
    sym (length-map trees entry)
    ∙ ap length h.2
    ∙ reads_length 0 (map bytes_in all) h.0 h.1
    ∙ length-map all bytes_in

-- ---- with the shipped ones

files_few : (own : List Entry) → length own ≤ most_files → list_all has_few own ≡ true
    → are_few (shipped_entries ++ own) ≡ true
unfolding shipped_entries
files_few own few all =
    ap (λ b. b && list_all has_few own)
    (le-leb (suc (suc (suc (suc (length own))))) counts.most_files (omega (arith, few)))
    ∙ all

pub with_shipped_few : (own : List FileTree) (files : List Entry) → files ≡ shipped_entries ++ map entry own
    → length own ≤ most_files → list_all has_few (map entry own) ≡ true → are_few files ≡ true
with_shipped_few own files are few all =
    ap are_few are ∙ files_few (map entry own) (omega (arith, few, length-map own entry)) all
