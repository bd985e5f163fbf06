use Rattle.std.proofs.Common.{◌≡◌, ◌≢◌, ◌∙◌, [], ◌∷◌, ap, sym, inl, inr, map, string_bytes}
use Rattle.clap.specs.Words.{HasKind, Kinds, app_of, fault_of, is_simple, is_simple_and_free, kind_of, matches_of}
use Rattle.clap.specs.declared.error.Error.{Error}
use Rattle.clap.specs.declared.error.kind.ErrorKind.TheVariants.{OutOfMemory}
use Rattle.run_options.specs.Command.{run_app}
use Rattle.run_options.proofs.Walks.{free_app, simple_app}
use Rattle.run_options.proofs.command.parse.Goals as goal

-- an error other than want of memory comes of a fault
a_fault : (ks : Kinds) (e : Error) → HasKind ks e → kind_of e ≢ OutOfMemory → ks ≢ []
a_fault ks e (inl memory) other = λ none. other memory
a_fault [] e (inr among) other = λ none. among
a_fault (k ∷ ks) e (inr among) other = λ none. cc

pub returns-in-Ok : goal.returns-in-Ok
returns-in-Ok c =
    let words = map string_bytes c.args.words.now in
    let is : app_of c.in_ok-run.run' ≡ run_app = c.in_ok-run.ensures in
    let passes = c.in-Ok.ensures.kinds (ap is_simple_and_free is ∙ free_app) in
    let finds = c.in-Ok.ensures.matches (ap is_simple is ∙ simple_app) in
    (ap (λ a. fault_of a words) (sym is) ∙ passes, finds.0 ∙ ap (λ a. matches_of a words) is)

pub returns : goal.returns
returns c = λ none.
    let words = map string_bytes c.args.words.now in
    let is : app_of c.in_ok-run.run' ≡ run_app = c.in_ok-run.ensures in
    a_fault (fault_of (app_of c.in_ok-run.run') words) c.in-Err.error (c.in-Err.ensures.kinds (ap is_simple_and_free is ∙ free_app))
    (c.lacks_memory.ensures c.if-lacks_memory.false) (ap (λ a. fault_of a words) is ∙ none)
