use Rattle.surface_commands.proofs.Common.{err_no_fault, memory_no_fault, runs_faulty, runs_replied, yes_with, refl, ap, ◌∙◌, numbers_text}
use Rattle.surface_commands.proofs.Measuring.{few_stop, numbers_pass}
use Rattle.surface_commands.proofs.surface.answer_surface.Goals as goal

pub returns-in_err-parts : goal.returns-in_err-parts
returns-in_err-parts g c =
    let stop = c.in_err-parts.field-0.0 in
    runs_faulty (λ none. none.0.0.0) c.from_residual-in_err-parts.ensures.1 c.in_ok-surface.ensures.reads.only_reads
    (err_no_fault stop c.in_err-parts.ensures.no_fault)
    (few_stop (g.S.Shelf.held c.args.shelf.now) c.args.mesh.now c.in_ok-surface.surface.faces stop c.in_ok-surface.ensures.reads.end
    c.in_err-parts.ensures.end)

pub returns-in_err-genera : goal.returns-in_err-genera
returns-in_err-genera g c =
    runs_faulty (λ none. none.0.0.0) c.from_residual-in_err-genera.ensures.1 c.in_ok-surface.ensures.reads.only_reads memory_no_fault tt

pub returns-in_err-lines : goal.returns-in_err-lines
returns-in_err-lines g c =
    runs_faulty (λ none. none.0.0.0) c.from_residual-in_err-lines.ensures.1 c.in_ok-surface.ensures.reads.only_reads memory_no_fault tt

pub returns : goal.returns
returns g c =
    let numbers = c.numbers_of-numbers.result in
    let genera = c.in_ok-genera.genera.items in
    runs_replied (λ none. none.0.0.0) c.in_ok-surface.ensures.reads.only_reads
    (record {
      answer = yes_with (numbers_text numbers genera);
      passes =
          numbers_pass (g.S.Shelf.held c.args.shelf.now) c.args.mesh.now c.in_ok-surface.surface.faces numbers genera
          c.in_ok-surface.ensures.reads.end c.in_ok-parts.ensures.end c.numbers_of-numbers.ensures c.in_ok-genera.ensures;
      is_answer =
          record { status_is = refl; text_is = c.in_ok-lines.ensures ∙ ap (numbers_text numbers) c.deref.ensures.value };
    })
