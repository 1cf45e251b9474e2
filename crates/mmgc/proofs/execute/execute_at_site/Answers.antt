use Rattle.std.proofs.Common.{◌∷◌, ◌++◌, [], Some, refl, subst, sym}
use Rattle.mm_laws.proofs.Turning.Replies.{group-step, reply-last}
use Rattle.mm_model.specs.declared.line.Line.TheVariants as lines
use Rattle.mm_model.specs.After.{after}
use Rattle.mm_model.specs.Logs.Turns.{births_if}
use Rattle.mm_sites.specs.Following.{sites_with}
use Rattle.mm_sited.specs.Executing.{HasSites}
use Rattle.mmgc.specs.Booking.{BooksOn}
use Rattle.mmgc.specs.Keeping.{keeps-trans}
use Rattle.mmgc.proofs.Carrying.{carries_out_lines}
use Rattle.mmgc.proofs.execute.execute_at_site.Goals as goal

pub execute_at-reply-requires-clause-sites : goal.execute_at-reply-requires-clause-sites
execute_at-reply-requires-clause-sites g c =
    let all = c.requires.in_use in
    record { state = all.state; good = all.good; shows = all.shows; sites = all.sites; has = all.has }

pub execute_at-reply-requires-clause-site : goal.execute_at-reply-requires-clause-site
execute_at-reply-requires-clause-site g c = c.requires.in_use.few

pub returns-clause-carried : goal.returns-clause-carried
returns-clause-carried g c =
    let done = c.execute_at-reply.ensures in
    let reply = c.execute_at-reply.result in
    let group = done.executes.before_reply ++ lines.Reply reply ∷ [] in
    let carried = carries_out_lines done.executes (λ told was. was.0) c.line.ensures.written in (
      carried.0,
      carried.1,
      subst (λ lines. BooksOn c.args.heap.now c.args.command.now lines c.args.book.now
          (record { site = c.args.book.now.site; sites = c.execute_at-reply.new.sites })) (sym carried.2)
          (record {
            site = refl;
            has = λ a sites good shows has.
                let step = (done.executes.step a good shows).step in
                subst (λ found. HasSites (after a c.args.command.now group)
                (sites_with c.args.book.now.site sites (births_if a c.args.command.now found))
                c.execute_at-reply.new.sites)
                (sym (reply-last done.executes.before_reply reply (group-step a c.args.command.now group _ step)))
                (done.sites_follow a sites good shows has);
          }),
    )

pub returns-clause-kept : goal.returns-clause-kept
returns-clause-kept g c = keeps-trans c.execute_at-reply.ensures.executes.told.was.1 c.line.ensures.kept
