-- The whole run, put together from its parts.
use Rattle.std.proofs.Common.{◌≡◌, ◌∙◌, List, [], ◌∷◌, Option, Ok, Err, refl, sym, ap, subst, inl, inr}
use Rattle.std.specs.Prelude.{Result}
use Rattle.just_errors.specs.Halts.{come_to, discard_value}
use Rattle.just_errors.specs.declared.error.Error.{Error}
use Rattle.just_errors.specs.declared.halt.Halt.{Halt}
use Rattle.just_errors.specs.declared.halt.Halt.TheVariants as halt
use Rattle.just_execution.specs.Reports.{calls_in, expected_steps}
use Rattle.just_tasks.specs.Scene.{Scene}
use Rattle.just_execution.specs.declared.run.Report.{Report}
use Rattle.just_tasks.specs.declared.task.Task.{Task}
use Rattle.just_justfile.specs.declared.justfile.Justfile.{Justfile}
use Rattle.just_recipe.specs.declared.dependency.Dependency.{Dependency}
use Rattle.just_recipe.specs.declared.recipe.Recipe.{Recipe}
use Rattle.just_run_layers.proofs.InteractionLemmas.{after-none, follows-asked, keeps-both, took-kept}
use Rattle.just_run_layers.specs.Evaluation.{Inquiry}
use Rattle.just_run_layers.specs.Host.{Answer, KeepsPromises}
use Rattle.just_run_layers.specs.Interactions.{Ask, Fail, IsTraceOrPrefix, Return, ArePromised, Log, Question, Interaction, HasTrace, logged, and_then, both, executed_in, result_under, trace_under}
use Rattle.just_run_layers.specs.declared.host.Entry.{Entry}
use Rattle.just_scopes.specs.Opening.{Opened, Setup, all_opened, scene_of}
use Rattle.just_invoke.specs.Results.{RunsInScene, RunEndsAs, out, ran, shut}
use Rattle.just_invoke.specs.loops.Results.{RunsOpen}
use Rattle.just_invoke.specs.Whole.{HasOpened, IsWholeRun}

-- nothing is asked for want of memory
out-follows : {A : Type 0} (qs : List Question) (end : Result A Halt) (old new : Log) (r : Result A Halt) → r ≡ Err halt.Memory → new ≡ old → IsTraceOrPrefix qs end old new r
out-follows qs end old new r h n = inr (inl h, ([], qs, refl, n ∙ sym (after-none old)))

module _ {A B : Type 0} (p : Question → Option Answer) (f : Question → Answer) (k : A → Interaction B) where
  -- the first steps succeed, and the others follow
  pub whole-follows : (s : Interaction A) (old mid new : Log) (x : A) (r : Result B Halt) → HasTrace p s old mid (Ok x) → ArePromised p f (trace_under f (and_then s k)) →
      (result_under f s ≡ Ok x → ArePromised p f (trace_under f (k x)) → IsTraceOrPrefix (trace_under f (k x)) (result_under f (k x)) mid new r) → IsTraceOrPrefix (trace_under f (and_then s k)) (result_under f (and_then s k)) old new r
  whole-follows (Return y) old mid new x r (n, inl h) steady rest =
      let same : x ≡ y = cc in
      subst (λ m. IsTraceOrPrefix (trace_under f (k y)) (result_under f (k y)) m new r) n
      (subst (λ z. IsTraceOrPrefix (trace_under f (k z)) (result_under f (k z)) mid new r) same (rest (ap (λ z. Ok z) (sym same)) (subst (λ z. ArePromised p f (trace_under f (k z))) (sym same) steady)))
  whole-follows (Return y) old mid new x r (n, inr h) steady rest = absurd (cc)
  whole-follows (Fail e) old mid new x r (n, inl h) steady rest = absurd (cc)
  whole-follows (Fail e) old mid new x r (n, inr h) steady rest = absurd (cc)
  whole-follows (Ask q g) old mid new x r (inl (n, h)) steady rest = absurd (cc)
  whole-follows (Ask q g) old mid new x r (inr (a, l, t)) steady rest =
      let same : f q ≡ a = l (f q) steady.0 in
      follows-asked q (trace_under f (and_then (g (f q)) k)) (result_under f (and_then (g (f q)) k)) old new r
      (whole-follows (g (f q)) (logged q old) mid new x r (subst (λ b. HasTrace p (g b) (logged q old) mid (Ok x)) (sym same) t) steady.1 rest)

  -- the first steps fail
  pub whole-stops : (s : Interaction A) (old new : Log) (e : Halt) → HasTrace p s old new (Err e) → ArePromised p f (trace_under f (and_then s k)) → IsTraceOrPrefix (trace_under f (and_then s k)) (result_under f (and_then s k)) old new (Err e)
  whole-stops (Return y) old new e (n, inl h) steady = absurd (cc)
  whole-stops (Return y) old new e (n, inr h) steady = let same : e ≡ halt.Memory = cc in out-follows (trace_under f (k y)) (result_under f (k y)) old new (Err e) (ap (λ d. Err d) same) n
  whole-stops (Fail d) old new e (n, inl h) steady = let same : e ≡ d = cc in inl (n ∙ sym (after-none old), ap (λ d. Err d) same)
  whole-stops (Fail d) old new e (n, inr h) steady = let same : e ≡ halt.Memory = cc in out-follows [] (Err d) old new (Err e) (ap (λ d. Err d) same) n
  whole-stops (Ask q g) old new e (inl (n, h)) steady =
      let same : e ≡ halt.Memory = cc in out-follows (trace_under f (and_then (Ask q g) k)) (result_under f (and_then (Ask q g) k)) old new (Err e) (ap (λ d. Err d) same) n
  whole-stops (Ask q g) old new e (inr (a, l, t)) steady =
      let same : f q ≡ a = l (f q) steady.0 in
      follows-asked q (trace_under f (and_then (g (f q)) k)) (result_under f (and_then (g (f q)) k)) old new (Err e)
      (whole-stops (g (f q)) (logged q old) new e (subst (λ b. HasTrace p (g b) (logged q old) new (Err e)) (sym same) t) steady.1)

-- want of memory after a success
pub late-memory : {A : Type 0} (p : Question → Option Answer) (s : Interaction A) (old new : Log) (x : A) → HasTrace p s old new (Ok x) → HasTrace p s old new (Err halt.Memory)
late-memory p (Return y) old new x (n, h) = (n, inr refl)
late-memory p (Fail e) old new x (n, h) = (n, inr refl)
late-memory p (Ask q g) old new x (inl (n, h)) = inl (n, refl)
late-memory p (Ask q g) old new x (inr (a, l, t)) = inr (a, l, late-memory p (g a) (logged q old) new x t)

-- what the run of tasks comes to is as is expected of the whole
pub is-whole : (e : Inquiry → Option Answer) (h : Entry → Option Answer) (setup : Setup) (root : Justfile) (recipes : List (Recipe Dependency)) (ts : List Task) (old new : Log) (result : Result Report Error) → RunEndsAs e h setup root recipes ts old new result →
    (ended : Result Report Halt) × (result ≡ come_to ended) × IsWholeRun e h setup root recipes ts old new ended
is-whole e h setup root recipes ts old new result (out is same) = (Err halt.Memory, is, λ sets needs ps order f steady even. out-follows _ _ old new (Err halt.Memory) refl same)
is-whole e h setup root recipes ts old new result (shut d is opens executed) =
    (Err d, is, λ sets needs ps order f steady even. whole-stops (both e h) f (λ opened. expected_steps (scene_of setup recipes opened) f ts) (all_opened sets setup.handed ps) old new d (opens sets needs ps order) steady)
is-whole e h setup root recipes ts old new result (ran opened mid ended is has run runs) = (
  ended,
  is,
  λ sets needs ps order f steady even. whole-follows (both e h) f (λ opened. expected_steps (scene_of setup recipes opened) f ts) (all_opened sets setup.handed ps) old mid new opened (discard_value ended)
      (has.steps sets needs ps order) steady (λ comes steady. runs.expected f steady (even opened comes)),
)

-- answers that are promised stay so
stays : (p q : Question → Option Answer) (f : Question → Answer) (questions : List Question) → KeepsPromises p q → ArePromised p f questions → ArePromised q f questions
stays p q f [] keeps steady = tt
stays p q f (x ∷ xs) keeps steady = (keeps x (f x) steady.0, stays p q f xs keeps steady.1)

-- a run under more promises is one under fewer
runs-before : (e d : Inquiry → Option Answer) (h k : Entry → Option Answer) → KeepsPromises e d → KeepsPromises h k → (scene : Scene) (ts : List Task) (old new : Log) (ended : Result Report Halt) → RunsInScene d k scene ts old new ended → RunsInScene e h scene ts old new ended
runs-before e d h k more host scene ts old new ended runs = record {
  taken = took-kept (both e h) (both d k) (keeps-both e d h k more host) _ old new (calls_in ended) runs.taken;
  expected = λ f steady even. runs.expected f (stays (both e h) (both d k) f _ (keeps-both e d h k more host) steady) even;
}

-- the modules were opened, and then the tasks ran in them, or there was no memory to
pub comes-to : (e d : Inquiry → Option Answer) (h k : Entry → Option Answer) → KeepsPromises e d → KeepsPromises h k → (setup : Setup) (root : Justfile) (recipes : List (Recipe Dependency)) (ts : List Task) (opened : List Opened) (old mid new : Log) (ended : Result Report Halt) →
    HasOpened e h setup root recipes ts old mid opened → RunsOpen d k setup recipes opened ts mid new ended → RunEndsAs e h setup root recipes ts old new (come_to ended)
comes-to e d h k more host setup root recipes ts opened old mid new ended has (inl (is, same)) =
    shut halt.Memory (ap come_to is)
    (λ sets needs ps order. subst (λ n. HasTrace (both e h) (all_opened sets setup.handed ps) old n (Err halt.Memory)) (sym same) (late-memory (both e h) (all_opened sets setup.handed ps) old mid opened (has.steps sets needs ps order)))
    (ap executed_in same ∙ has.unexecuted)
comes-to e d h k more host setup root recipes ts opened old mid new ended has (inr (run, runs)) = ran opened mid ended refl has run (runs-before e d h k more host (scene_of setup recipes opened) ts mid new ended runs)
