use Rattle.std.proofs.Common.{◌∙◌, sym}
use Rattle.inrc2pb_bound_program.proofs.command_line.period_paths.Goals as goal

pub returns-clause-ok : goal.returns-clause-ok
returns-clause-ok c = record {
  scenario = c.in_ok-required_path.ensures.ok;
  history = c.in_ok-required_path-2.ensures.ok;
  weeks = rw (c.given.ensures, c.given-2.ensures) at c.in_ok-week_paths.ensures;
  given = c.in_ok-optional_path.ensures;
  proof = c.in_ok-optional_path-2.ensures;
  rosters = sym (c.in_ok-owned.ensures ∙ c.given-3.ensures);
}
