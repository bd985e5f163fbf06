-- A broker hears what became of a content that it offered.
use Rattle.std.proofs.Common.{◌≡◌, ℕ, ◌<◌, List, [], true, false, Some, None, sym, ap, ◌∙◌, set as put}
use Rattle.std.specs.Prelude.{is_some}
use Rattle.fl_digest.specs.declared.BlobRef.{BlobRef}
use Rattle.fl_digest.specs.Reference.{same_reference}
use Rattle.blob_store.specs.Blobs.{blob_at}
use Rattle.cache_node.specs.Cache.{acknowledged, clean_at, dirty_at}
use Rattle.kvs_rules.specs.Log.{Log}
use Rattle.kvs_rules.specs.Namespaces.{Setting}
use Rattle.kvs_rules.specs.Brokers.{has_got, parent}
use Rattle.kvs_content.specs.Agrees.{AgreesContent, Follows, IsRefused}
use Rattle.kvs_content.specs.Messages.{AreSettled}
use Rattle.kvs_content.specs.Node.{NodeValue, getting, rejected, with_cache}
use Rattle.kvs_content.specs.Sound.{IsSoundBut, IsSoundContent}
use Rattle.kvs_content.specs.Value.{ContentValue, node_at, size_of}
use Rattle.kvs_content.proofs.Accepting.{accept-follows}
use Rattle.kvs_content.proofs.Refusing.{reject-follows}
use Rattle.kvs_content.proofs.Sounding.{ack-clean, ack-none, ack-other, dirty-still, refused-none, refused-other, settled-sound}

module _ (v w : ContentValue) (at : ℕ) (within : at < size_of v) (r : BlobRef) (new : NodeValue) (out : dirty_at r new.cache ≡ None)
    (nodes : w.nodes ≡ put v.nodes at new) (fanout : w.fanout ≡ v.fanout) (hash : w.hash ≡ v.hash) (store : w.store ≡ v.store) (wants : w.wants ≡ v.wants) (taken : List ℕ) (but : IsSoundBut at r taken v) where
  -- the content was accepted
  module _ (is : new ≡ with_cache (acknowledged r (node_at v at).cache) (node_at v at)) (sent : AreSettled v.fanout at r (Some taken) v.offers w.offers)
      (there : blob_at r v.store ≡ Some taken) (dirty : dirty_at r (node_at v at).cache ≡ Some taken) where
    other : (x : BlobRef) → same_reference x r ≡ false → dirty_at x new.cache ≡ dirty_at x (node_at v at).cache
    other x s = ap (λ n. dirty_at x n.cache) is ∙ ack-other (node_at v at).cache r x s

    none : (node_at v at).cache.dirty ≡ [] → new.cache.dirty ≡ []
    none e = ap (λ n. n.cache.dirty) is ∙ ack-none (node_at v at).cache r e

    clean : (x : BlobRef) (found : List ℕ) → clean_at x new.cache ≡ Some found → blob_at x v.store ≡ Some found
    clean x found e =
        ack-clean (node_at v at).cache r (λ y bytes. blob_at y v.store ≡ Some bytes) (λ bytes d. there ∙ sym dirty ∙ d) (λ y bytes f. but.placed.same at y bytes within f) x found
        (ap (λ n. clean_at x n.cache) (sym is) ∙ e)

    pub accepted-sound : IsSoundContent w
    accepted-sound = settled-sound v w at within r (Some taken) new but.placed nodes fanout wants sent other out none store clean (λ found e. there ∙ e) taken but

    pub accepted-follows : (set : Setting) (log : Log) → AgreesContent v set log → 0 < at → has_got log (parent v.fanout at) r ≡ true
        → Follows v w (getting at r (is_some (dirty_at r (node_at v at).cache))) set log
    accepted-follows set log a below source =
        accept-follows v w set log a at within r fanout hash store wants but.placed taken there (nodes ∙ ap (put v.nodes at) is) sent below source
        (dirty-still v w at within r (Some taken) new but.placed nodes fanout wants sent other out none store clean (λ found e. there ∙ e))

  -- the content was refused
  module _ (is : new ≡ rejected r (node_at v at)) (sent : AreSettled v.fanout at r None v.offers w.offers) where
    other-refused : (x : BlobRef) → same_reference x r ≡ false → dirty_at x new.cache ≡ dirty_at x (node_at v at).cache
    other-refused x s = ap (λ n. dirty_at x n.cache) is ∙ refused-other (node_at v at).cache r x s

    none-refused : (node_at v at).cache.dirty ≡ [] → new.cache.dirty ≡ []
    none-refused e = ap (λ n. n.cache.dirty) is ∙ refused-none (node_at v at).cache r e

    clean-refused : (x : BlobRef) (found : List ℕ) → clean_at x new.cache ≡ Some found → blob_at x v.store ≡ Some found
    clean-refused x found e = but.placed.same at x found within (ap (λ n. clean_at x n.cache) (sym is) ∙ e)

    no-bytes : (found : List ℕ) → None ≡ Some found → blob_at r v.store ≡ Some found
    no-bytes found e = absurd (let no : ⊥ = cc in no)

    pub refused-sound : IsSoundContent w
    refused-sound = settled-sound v w at within r None new but.placed nodes fanout wants sent other-refused out none-refused store clean-refused no-bytes taken but

    pub refused-follows : (set : Setting) (log : Log) → AgreesContent v set log → IsRefused set log r → Follows v w [] set log
    refused-follows set log a clash =
        reject-follows v w set log a at within r clash fanout hash store wants (nodes ∙ ap (put v.nodes at) is) sent
        (dirty-still v w at within r None new but.placed nodes fanout wants sent other-refused out none-refused store clean-refused no-bytes)
