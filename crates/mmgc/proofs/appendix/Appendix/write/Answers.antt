use Rattle.std.proofs.Common.{Option, sym, subst}
use Rattle.std.specs.Option.{option_map}
use Rattle.mm_model.specs.Views.View.{view_of}
use Rattle.mm_why.specs.Path.{Shown, shown_in}
use Rattle.mmgc.specs.declared.appendix.Question.{Question}
use Rattle.mmgc.specs.Added.{IsAnswer, IsWhyText}
use Rattle.mmgc.proofs.AddedLines.{shown_same}
use Rattle.mmgc.proofs.appendix.Appendix.write.Goals as goal

pub returns-in-Some-clause-written : goal.returns-in-Some-clause-written
returns-in-Some-clause-written g c a shows =
    let added = c.write_why.ensures.written in
    let shown = shown_in (view_of a) in
    record {
      text = added.text;
      is = subst
          (λ (asked : Option Question). IsAnswer (option_map (λ question. question.word) asked) shown added.text)
          (sym c.in-Some.is)
          (subst (λ (s : Shown). IsWhyText s c.in-Some.question.word added.text)
          (shown_same c.args.heap.now a shows) added.is);
      written = added.written;
    }
