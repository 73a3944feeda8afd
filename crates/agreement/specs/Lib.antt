pub mod CallsAgree
