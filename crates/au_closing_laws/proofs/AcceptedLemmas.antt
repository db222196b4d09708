-- Accepted programs are gathered of the shipped files and of parsed ones.
use Rattle.std.proofs.Common.{◌≡◌, ◌⊎◌, inl, inr, ℕ, ◌+◌, suc, List, [], ◌∷◌, ◌++◌, length, map, refl}
use Rattle.std.proofs.Common.{ap, subst, arith}
use Rattle.std.specs.Prelude.{◌<◌, ◌≤◌, Contains, IsTrue}
use Rattle.au_base.specs.Outside.{Files}
use Rattle.au_base.proofs.ListLemmas.{nothing_there, Contains-cases}
use Rattle.au_shipped.specs.Shipped.{shipped_files}
use Rattle.au_syntax.specs.Forms.{formed_module}
use Rattle.au_modules.specs.Accepted.{IsProgram}
use Rattle.au_modules.specs.Programs.{Entry}
use Rattle.au_accepted.specs.Accepted.{AreAcceptedAs}
use Rattle.au_accepted.specs.Files.{AreFiles}
use Rattle.au_accepted.specs.Programs.{entries, program_modules, shipped_entries}
use Rattle.au_accepted.specs.Trees.{AreRead, ReadFile}
use Rattle.au_closing_laws.specs.Gathered.{IsGathered, IsParsed, entry_of}

-- a file that was read has a number among those of the files, and its tree is formed
read_there : (file : ℕ) (all : List (List ℕ)) (reads : List ReadFile) → AreRead file all reads → (e : Entry) →
    Contains (entries file reads) e
    → (e.file < file + length reads) × IsTrue (formed_module e.tree)
unfolding entries
read_there file [] [] read e c = absurd (nothing_there e c)
read_there file (bytes ∷ others) (one ∷ rest) read e c =
    by (Contains-cases (record { file = file; tree = one.tree }) (entries (file + 1) rest) e c)
    (read_there (file + 1) others rest read.1 e)
  where
    first : (n k : ℕ) → n < n + suc k
    first n k = omega arith

    shifted : (n k : ℕ) → (n + 1) + k ≡ n + suc k
    shifted n k = omega arith

    by : (record { file = file; tree = one.tree } ≡ e) ⊎ Contains (entries (file + 1) rest) e →
        (Contains (entries (file + 1) rest) e → (e.file < (file + 1) + length rest)
        × IsTrue (formed_module e.tree))
        → (e.file < file + suc (length rest)) × IsTrue (formed_module e.tree)
    by (inl here) later = (
      subst (λ (x : Entry). x.file < file + suc (length rest)) here
          (first file (length rest)),
      subst (λ (x : Entry). IsTrue (formed_module x.tree)) here read.0.formed,
    )
    by (inr behind) later = let its = later behind
        in (subst (λ n. e.file < n) (shifted file (length rest)) its.0, its.1)
read_there file [] (one ∷ rest) read e c = absurd read
read_there file (bytes ∷ others) [] read e c = absurd read

read_count : (file : ℕ) (all : List (List ℕ)) (reads : List ReadFile) → AreRead file all reads →
    length reads ≡ length all
read_count file [] [] read = refl
read_count file (bytes ∷ others) (one ∷ rest) read = ap suc (read_count (file + 1) others rest read.1)
read_count file [] (one ∷ rest) read = absurd read
read_count file (bytes ∷ others) [] read = absurd read

file_count : (files : Files) (names all : List (List ℕ)) → AreFiles files names all → length all ≡ length names
file_count files [] [] had = refl
file_count files (name ∷ names) (bytes ∷ others) had = ap suc (file_count files names others had.1)
file_count files [] (bytes ∷ others) had = absurd had
file_count files (name ∷ names) [] had = absurd had

-- an accepted program is gathered, and with the shipped files those of the user's are the files of a program
pub accepted_whole : (files : Files) (names all : List (List ℕ)) (reads : List ReadFile) →
    AreAcceptedAs files names all reads
    → (is : IsGathered (program_modules reads)) × IsProgram (map entry_of shipped_files ++ is.own)
unfolding shipped_entries
accepted_whole files names all reads accepted =
    (record { own = entries 0 reads; parsed = parsed; gathered = refl }, accepted.program)
  where
    below : (n reads all names : ℕ) → n < 0 + reads → reads ≡ all → all ≡ names → names ≤ 128 → n < 65532
    below n reads all names h same also few = omega (arith, h, same, also, few)

    parsed : (e : Entry) → Contains (entries 0 reads) e → IsParsed e
    parsed e c =
        let its = read_there 0 all reads accepted.read e c in
        record {
          own = below e.file (length reads) (length all) (length names) its.0
              (read_count 0 all reads accepted.read) (file_count files names all accepted.had) accepted.few;
          formed = its.1;
        }

pub accepted_gathered : (files : Files) (names all : List (List ℕ)) (reads : List ReadFile) →
    AreAcceptedAs files names all reads → IsGathered (program_modules reads)
accepted_gathered files names all reads accepted = (accepted_whole files names all reads accepted).0
