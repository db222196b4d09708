-- How many files a program has and how many declarations a file, so that the place of a module and the
-- number of a declaration fit where they are kept.
use Rattle.std.specs.Prelude.{ℕ, Bool, ◌&&◌, nat_le, List, length}
use Rattle.std.specs.List.{list_all}
use Rattle.au_base.specs.Limits.{most_tokens}
use Rattle.au_modules.specs.Programs.{Entry}

-- the most files of a program: those of the user, and four that are shipped
abbrev pub most_files : ℕ
most_files = 132

-- a file has no more declarations than a file may have tokens
abbrev pub has_few : Entry → Bool
has_few e = nat_le (length e.tree.declarations) most_tokens

-- files are as few as those of a program, and the declarations in each too
abbrev pub are_few : List Entry → Bool
are_few files = nat_le (length files) most_files && list_all has_few files
