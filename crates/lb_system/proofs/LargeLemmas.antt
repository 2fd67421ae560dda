-- What the mode `gen` shows.
use Rattle.std.proofs.Common.{◌≡◌, List, [], length, ap, subst, ◌∙◌}
use Rattle.std.specs.Prelude.{min}
use Rattle.lb_trace.specs.declared.Event.{Event}
use Rattle.lb_syntax.specs.Names.{Text}
use Rattle.lb_syntax.specs.Tree.{Procedure}
use Rattle.lb_syntax.specs.Needs.{code_need}
use Rattle.lb_syntax.specs.Calls.{IsStackNeed}
use Rattle.lb_source.specs.Source.{src}
use Rattle.lb_image.specs.declared.image.Image.{Image}
use Rattle.lb_correctness.specs.Images.{IsCompiled}
use Rattle.lb_words.specs.declared.job.Job.{Job}
use Rattle.lb_system.specs.declared.large.Counts.{Counts}
use Rattle.lb_system.specs.Views.{View, with_image}
use Rattle.lb_system.specs.LargeReport.{IsCoreCount, ShowsLarge, code_trace, large_fuel, large_report, most_counted, most_instructions, seed_program, source_run}

-- what is so of the tree is so of the program of its seed
pub large_shown : (job : Job) (p : List Procedure) (i : Image) (trace : List Event) (c : Counts) (text : Text) (s : View) → p ≡ seed_program job.seed → IsCompiled p i
    → c.functions ≡ length p → c.words ≡ code_need p → IsStackNeed p c.stack → trace ≡ (src p i.layout large_fuel []).trace → c.mmio ≡ length trace
    → c.isa ≡ min most_counted (length (code_trace i most_instructions)) → IsCoreCount job.seed i c.core → text ≡ large_report job c trace → s ≡ with_image text i
    → ShowsLarge job s
large_shown job p i trace c text s is compiled functions words stack ran mmio code core told shown =
    let same : trace ≡ (source_run job.seed i).trace = ran ∙ ap (λ q. (src q i.layout large_fuel []).trace) is in
    record {
      image = i;
      counts = c;
      compiled = subst (λ q. IsCompiled q i) is compiled;
      counted = record {
        functions = functions ∙ ap length is;
        words = words ∙ ap code_need is;
        stack = subst (λ q. IsStackNeed q c.stack) is stack;
        mmio = mmio ∙ ap length same;
        isa = code;
        core = core;
      };
      shown = shown ∙ ap (λ t. with_image t i) (told ∙ ap (large_report job c) same);
    }
