use Rattle.std.proofs.Common.{◌∙◌, refl}
use Rattle.std.proofs.lemmas.Result.{err_from_is_err_and}
use Rattle.inrc2pb_frame.specs.Runs.IsRun.{performed, stopped}
use Rattle.inrc2pb_frame.proofs.GivenWords.{memory_stop}
use Rattle.inrc2pb_frame.specs.declared.stop.Stop.TheVariants as stops
use Rattle.inrc2pb_frame.specs.Faults.{out_of_memory}
use Rattle.inrc2pb_program.specs.Programs.{inrc2pb}
use Rattle.inrc2pb_program.proofs.run.run.Goals as goal

pub returns-in_err-job : goal.returns-in_err-job
returns-in_err-job g c =
    let p = err_from_is_err_and c.from_residual.result c.from_residual.ensures.1 in
    stopped c.in_err-job.field-0.0 (rw (p.1, p.2) refl) c.in_err-job.ensures.err
    (record { unopened = refl; input = refl; file = refl; output = refl })

pub returns-in_err-place : goal.returns-in_err-place
returns-in_err-place g c =
    let p = err_from_is_err_and c.from_residual-in_err-place.result c.from_residual-in_err-place.ensures.1 in
    stopped (stops.Job out_of_memory) (rw (p.1, p.2) refl) (memory_stop inrc2pb c.args.words c.in_ok-job.job c.in_ok-job.ensures.ok)
    (record { unopened = refl; input = refl; file = c.in_err-place.ensures.unplaced; output = refl })

pub returns : goal.returns
returns g c =
    performed c.in_ok-job.job c.in_ok-job.ensures.ok
    (record {
      placed = c.place.new.self;
      at_its_path = record {
        path = c.in_ok-place.ensures.placed.path ∙ c.output_path.ensures;
        sound = c.in_ok-place.ensures.placed.sound;
        unwritten = c.in_ok-place.ensures.placed.unwritten;
      };
      result = c.perform.result;
      outcome = c.perform.ensures;
      end = c.ended.ensures;
    })
