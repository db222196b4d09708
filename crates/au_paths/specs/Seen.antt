-- What trees of the code say, as the trees over which lives are judged.
pub use Rattle.au_clearing.specs.Seen.{seen_name, seen_bind, seen_binds, seen_parameters, seen_expression}
pub use Rattle.au_clearing.specs.Seen.{seen_expressions, seen_arguments, seen_statement, seen_statements}
pub use Rattle.au_clearing.specs.Seen.{seen_block, seen_branches, seen_arms}
